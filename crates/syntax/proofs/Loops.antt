-- A loop over the parts of a list, turn by turn.
use Rattle.std.proofs.Common.{◌≡◌, ℕ, zero, suc, ◌-◌, ◌<◌, List, [], ◌∷◌, ◌++◌, refl, sym, ◌∙◌, ap, arith, Option, Some, None, Bool, true, false, append_assoc}
use Rattle.lexis.specs.Signs.{Sign}
use Rattle.syntax.specs.Reading.{Reads, more_at, in_front}

pub in_front_twice : {A B : Type 0} (x y : List A) (o : Option (List A × B)) → in_front x (in_front y o) ≡ in_front (x ++ y) o
in_front_twice x y None = refl
in_front_twice x y (Some r) = ap (λ l. Some (l, r.1)) (sym (append_assoc x y r.0))

module _ {A : Type 0} (p : Reads (A × Bool)) (front : List A) (ts : List Sign) where
  pub more_none : (n : ℕ) → 0 < n → p ts ≡ None → in_front front (more_at p n ts) ≡ None
  unfolding more_at
  more_none zero h e = absurd (omega arith)
  more_none (suc n) h e = rw e refl

  pub more_last : (n : ℕ) (c : A) (r : List Sign) → 0 < n → p ts ≡ Some ((c, true), r) → in_front front (more_at p n ts) ≡ Some (front ++ (c ∷ []), r)
  unfolding more_at
  more_last zero c r h e = absurd (omega arith)
  more_last (suc n) c r h e = rw e refl

  pub more_next : (n : ℕ) (c : A) (r : List Sign) → 0 < n → p ts ≡ Some ((c, false), r) → in_front front (more_at p n ts) ≡ in_front (front ++ (c ∷ [])) (more_at p (n - 1) r)
  unfolding more_at
  more_next zero c r h e = absurd (omega arith)
  more_next (suc n) c r h e = rw e (in_front_twice front (c ∷ []) (more_at p n r) ∙ ap (λ i. in_front (front ++ c ∷ []) (more_at p i r)) back)
    where
      back : n ≡ suc n - 1
      back = omega arith

  pub more_over : in_front front (more_at p 0 ts) ≡ None
  unfolding more_at
  more_over = refl
