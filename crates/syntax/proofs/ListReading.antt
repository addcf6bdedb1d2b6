-- Lists, part by part: what is spelled is read again, and what is read is spelled so.
use Rattle.std.proofs.Common.{◌≡◌, ℕ, zero, suc, ◌≤◌, List, [], ◌∷◌, ◌++◌, length, refl, sym, ◌∙◌, ap, subst, arith, Some, Bool, true, false, cond, append_assoc}
use Rattle.std.specs.Prelude.{All}
use Rattle.std.proofs.lemmas.Option.{none-some}
use Rattle.std.proofs.lemmas.List.Elements.{All-nil, All-cons, All-head, All-tail}
use Rattle.lexis.specs.Signs.{Sign}
use Rattle.syntax.specs.Grammar.{joined, behind}
use Rattle.syntax.specs.Reading.{Reads, more_at, in_front}
use Rattle.syntax.proofs.Inversions.{bind, arrive}

-- parts were read, one at least, and what follows them
pub record Parts {A : Type 0} (one : A → List Sign) (between last : List Sign) (Valid : A → Type 0) (n : ℕ) (ts : List Sign) (y : List A × List Sign) : Type 0 where
  pub whole : ts ≡ joined one between last y.0 ++ y.1
  pub some : 1 ≤ length y.0
  pub most : length y.0 ≤ n
  pub valid : All Valid y.0

module _ {A : Type 0} (p : Reads (A × Bool)) (one : A → List Sign) (between last : List Sign) (Valid : A → Type 0) where
  abbrev pub closing : Bool → List Sign
  closing true = last
  closing false = between

  more-one : ((a : A) (r : List Sign) → Valid a → p (one a ++ (last ++ r)) ≡ Some ((a, true), r))
      → (a : A) (n : ℕ) (r : List Sign) → 1 ≤ n → Valid a → more_at p n (joined one between last (a ∷ []) ++ r) ≡ Some (a ∷ [], r)
  unfolding more_at
  more-one end a zero r h v = absurd (omega arith)
  more-one end a (suc n) r h v = rw append_assoc (rw (end a r v) refl)

  more-many : ((a b : A) (r : List Sign) → Valid a → p (one a ++ (between ++ (one b ++ r))) ≡ Some ((a, false), one b ++ r))
      → (a b : A) (others : List A) (n : ℕ) (r : List Sign) → Valid a
      → more_at p n (joined one between last (b ∷ others) ++ r) ≡ Some (b ∷ others, r)
      → more_at p (suc n) (joined one between last (a ∷ b ∷ others) ++ r) ≡ Some (a ∷ b ∷ others, r)
  unfolding more_at
  more-many next a b others n r v rest =
      let whole : joined one between last (a ∷ b ∷ others) ++ r ≡ one a ++ (between ++ (one b ++ (behind one between last others ++ r))) =
      append_assoc (one a) (between ++ (one b ++ behind one between last others)) r
      ∙ ap (λ i. one a ++ i) (append_assoc between (one b ++ behind one between last others) r
      ∙ ap (λ i. between ++ i) (append_assoc (one b) (behind one between last others) r)) in
      let tail : joined one between last (b ∷ others) ++ r ≡ one b ++ (behind one between last others ++ r) = append_assoc (one b) (behind one between last others) r in
      let back : more_at p n (one b ++ (behind one between last others ++ r)) ≡ Some (b ∷ others, r) = ap (more_at p n) (sym tail) ∙ rest in
      ap (more_at p (suc n)) whole ∙ rw (next a b (behind one between last others ++ r) v) (rw back refl)

  pub more-again : ((a : A) (r : List Sign) → Valid a → p (one a ++ (last ++ r)) ≡ Some ((a, true), r))
      → ((a b : A) (r : List Sign) → Valid a → p (one a ++ (between ++ (one b ++ r))) ≡ Some ((a, false), one b ++ r))
      → (a : A) (others : List A) (n : ℕ) (r : List Sign) → length (a ∷ others) ≤ n → All Valid (a ∷ others)
      → more_at p n (joined one between last (a ∷ others) ++ r) ≡ Some (a ∷ others, r)
  more-again end next a [] n r h v = more-one end a n r h (All-head Valid a [] v)
  more-again end next a (b ∷ others) zero r h v = absurd (omega arith)
  more-again end next a (b ∷ others) (suc n) r h v =
      let fewer : length (b ∷ others) ≤ n = omega arith in
      more-many next a b others n r (All-head Valid a (b ∷ others) v) (more-again end next b others n r fewer (All-tail Valid a (b ∷ others) v))

  more-front : (a : A) (n : ℕ) (ts : List Sign) (z : List A × List Sign) → Valid a → Parts one between last Valid n ts z
      → Parts one between last Valid (suc n) (one a ++ (between ++ ts)) (a ∷ z.0, z.1)
  more-front a n ts ([], r) v l = absurd (omega (arith, l.some))
  more-front a n ts (b ∷ others, r) v l = record {
    whole = ap (λ i. one a ++ (between ++ i)) l.whole
        ∙ ap (λ i. one a ++ i) (sym (append_assoc between (one b ++ behind one between last others) r))
        ∙ sym (append_assoc (one a) (between ++ (one b ++ behind one between last others)) r);
    some = omega arith;
    most = omega (arith, l.most);
    valid = All-cons Valid a (b ∷ others) v l.valid;
  }

  pub more-some : ((ts : List Sign) (y : (A × Bool) × List Sign) → p ts ≡ Some y → (ts ≡ one y.0.0 ++ (closing y.0.1 ++ y.1)) × Valid y.0.0)
      → (n : ℕ) (ts : List Sign) (y : List A × List Sign) → more_at p n ts ≡ Some y → Parts one between last Valid n ts y
  unfolding more_at
  more-some sound zero ts y e = absurd (none-some y e)
  more-some sound (suc n) ts y e =
      let u = bind _ (p ts) y e in
      go u.0.0.0 u.0.0.1 u.0.1 (sound ts u.0 u.1) (more-some sound n u.0.1) u.2
    where
      go : (a : A) (b : Bool) (s : List Sign) → (ts ≡ one a ++ (closing b ++ s)) × Valid a
          → ((z : List A × List Sign) → more_at p n s ≡ Some z → Parts one between last Valid n s z)
          → cond b (Some (a ∷ [], s)) (in_front (a ∷ []) (more_at p n s)) ≡ Some y → Parts one between last Valid (suc n) ts y
      go a true s g ih h =
          arrive (λ (z : List A × List Sign). Parts one between last Valid (suc n) ts z) (a ∷ [], s) y h
          (record {
            whole = g.0 ∙ sym (append_assoc (one a) last s);
            some = omega arith;
            most = omega arith;
            valid = All-cons Valid a [] g.1 (All-nil Valid);
          })
      go a false s g ih h =
          let v = bind _ (more_at p n s) y h in
          arrive (λ (z : List A × List Sign). Parts one between last Valid (suc n) ts z) (a ∷ v.0.0, v.0.1) y v.2
          (subst (λ i. Parts one between last Valid (suc n) i (a ∷ v.0.0, v.0.1)) (sym g.0) (more-front a n s v.0 g.1 (ih v.0 v.1)))
