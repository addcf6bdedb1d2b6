-- The parts of a list of types, one after another.
use Rattle.std.proofs.Common.{◌≡◌, ℕ, zero, suc, ◌-◌, ◌<◌, List, [], ◌∷◌, refl, ◌∙◌, ap, arith, Option, Some, None, Bool, true, false}
use Rattle.std.specs.Prelude.{if◌then◌else◌}
use Rattle.syntax.specs.declared.tree.Group.{Group}
use Rattle.syntax.specs.Tree.{Ending, Form, list, choice}
use Rattle.syntax.specs.View.{components_of, alternatives_of}
use Rattle.lexis.specs.Signs.{Sign}
use Rattle.syntax.specs.Reading.{◌>>=◌, Reads, more_at, in_front}
use Rattle.syntax.specs.ValueReading.{ending_at, end_at}
use Rattle.syntax.specs.TypeReading.{named_at, component_at, alternative_at}
use Rattle.syntax.specs.PartReading.{Listed, in_group, in_choice, whole, part_behind, parts_at}
use Rattle.syntax.proofs.Loops.{in_front_twice}

-- the next part, and those behind it
abbrev next_part : Reads Form → ℕ → Listed → Reads Form
next_part p n l ts = do
  named ← named_at p ts
  part ← part_behind l named.0 named.1
  if part.0.1 then Some (whole part.0.0, part.1) else parts_at p n part.0.0 part.1

module _ (p : Reads Form) (n : ℕ) (group : Group) (cs : List (List ℕ × Form × Ending)) (ts : List Sign) where
  component-end : (named : (List ℕ × Form) × List Sign) → named_at p ts ≡ Some named → (v : Ending × List Sign) → ending_at named.1 ≡ Some v
      → (o : Option (Bool × List Sign)) → end_at v.1 ≡ o → parts_at p (suc n) (in_group group cs) ts ≡ next_part p n (in_group group cs) ts
  unfolding parts_at part_behind more_at component_at
  component-end named e v f None g = rw e (rw f (rw g refl))
  component-end named e v f (Some (true, r)) g = rw e (rw f (rw g refl))
  component-end named e v f (Some (false, r)) g =
      rw e (rw f (rw g (ap (λ o. o >>= (λ parts. Some (list group (components_of parts.0), parts.1))) (in_front_twice cs ((named.0.0, named.0.1, v.0) ∷ []) (more_at (component_at p) n r)))))

  component-ending : (named : (List ℕ × Form) × List Sign) → named_at p ts ≡ Some named → (o : Option (Ending × List Sign)) → ending_at named.1 ≡ o
      → parts_at p (suc n) (in_group group cs) ts ≡ next_part p n (in_group group cs) ts
  unfolding parts_at part_behind more_at component_at
  component-ending named e None f = rw e (rw f refl)
  component-ending named e (Some v) f = component-end named e v f (end_at v.1) refl

  next-component : (o : Option ((List ℕ × Form) × List Sign)) → named_at p ts ≡ o → parts_at p (suc n) (in_group group cs) ts ≡ next_part p n (in_group group cs) ts
  unfolding parts_at part_behind more_at component_at
  next-component None e = rw e refl
  next-component (Some named) e = component-ending named e (ending_at named.1) refl

module _ (p : Reads Form) (n : ℕ) (cs : List (List ℕ × Form)) (ts : List Sign) where
  alternative-end : (named : (List ℕ × Form) × List Sign) → named_at p ts ≡ Some named → (o : Option (Bool × List Sign)) → end_at named.1 ≡ o
      → parts_at p (suc n) (in_choice cs) ts ≡ next_part p n (in_choice cs) ts
  unfolding parts_at part_behind more_at alternative_at
  alternative-end named e None g = rw e (rw g refl)
  alternative-end named e (Some (true, r)) g = rw e (rw g refl)
  alternative-end named e (Some (false, r)) g =
      rw e (rw g (ap (λ o. o >>= (λ parts. Some (choice (alternatives_of parts.0), parts.1))) (in_front_twice cs (named.0 ∷ []) (more_at (alternative_at p) n r))))

  next-alternative : (o : Option ((List ℕ × Form) × List Sign)) → named_at p ts ≡ o → parts_at p (suc n) (in_choice cs) ts ≡ next_part p n (in_choice cs) ts
  unfolding parts_at part_behind more_at alternative_at
  next-alternative None e = rw e refl
  next-alternative (Some named) e = alternative-end named e (end_at named.1) refl

next : (p : Reads Form) (n : ℕ) (l : Listed) (ts : List Sign) → parts_at p (suc n) l ts ≡ next_part p n l ts
next p n (in_group group cs) ts = next-component p n group cs ts (named_at p ts) refl
next p n (in_choice cs) ts = next-alternative p n cs ts (named_at p ts) refl

module _ (p : Reads Form) (l : Listed) (ts : List Sign) where
  pub parts_none : (n : ℕ) → 0 < n → named_at p ts ≡ None → parts_at p n l ts ≡ None
  parts_none zero h e = absurd (omega arith)
  parts_none (suc n) h e = next p n l ts ∙ rw e refl

  pub parts_cut : (n : ℕ) (named : (List ℕ × Form) × List Sign) → 0 < n → named_at p ts ≡ Some named → part_behind l named.0 named.1 ≡ None → parts_at p n l ts ≡ None
  parts_cut zero named h e f = absurd (omega arith)
  parts_cut (suc n) named h e f = next p n l ts ∙ rw e (rw f refl)

  pub parts_last : (n : ℕ) (named : (List ℕ × Form) × List Sign) (longer : Listed) (r : List Sign) → 0 < n
      → named_at p ts ≡ Some named → part_behind l named.0 named.1 ≡ Some ((longer, true), r) → parts_at p n l ts ≡ Some (whole longer, r)
  parts_last zero named longer r h e f = absurd (omega arith)
  parts_last (suc n) named longer r h e f = next p n l ts ∙ rw e (rw f refl)

  pub parts_next : (n : ℕ) (named : (List ℕ × Form) × List Sign) (longer : Listed) (r : List Sign) → 0 < n
      → named_at p ts ≡ Some named → part_behind l named.0 named.1 ≡ Some ((longer, false), r) → parts_at p n l ts ≡ parts_at p (n - 1) longer r
  parts_next zero named longer r h e f = absurd (omega arith)
  parts_next (suc n) named longer r h e f = next p n l ts ∙ rw e (rw f (ap (λ m. parts_at p m longer r) back))
    where
      back : n ≡ suc n - 1
      back = omega arith

pub parts_over : (p : Reads Form) (l : Listed) (ts : List Sign) → parts_at p 0 l ts ≡ None
unfolding parts_at more_at
parts_over p (in_group group cs) ts = refl
parts_over p (in_choice cs) ts = refl

in_front_of_nothing : {A B : Type 0} (o : Option (List A × B)) → in_front [] o ≡ o
in_front_of_nothing None = refl
in_front_of_nothing (Some r) = refl

pub all_components : (p : Reads Form) (group : Group) (n : ℕ) (ts : List Sign)
    → parts_at p n (in_group group []) ts ≡ (more_at (component_at p) n ts >>= (λ parts. Some (list group (components_of parts.0), parts.1)))
unfolding parts_at
all_components p group n ts = ap (λ o. o >>= (λ parts. Some (list group (components_of parts.0), parts.1))) (in_front_of_nothing (more_at (component_at p) n ts))

pub all_alternatives : (p : Reads Form) (n : ℕ) (ts : List Sign)
    → parts_at p n (in_choice []) ts ≡ (more_at (alternative_at p) n ts >>= (λ parts. Some (choice (alternatives_of parts.0), parts.1)))
unfolding parts_at
all_alternatives p n ts = ap (λ o. o >>= (λ parts. Some (choice (alternatives_of parts.0), parts.1))) (in_front_of_nothing (more_at (alternative_at p) n ts))
