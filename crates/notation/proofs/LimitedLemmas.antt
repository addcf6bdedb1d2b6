-- Weights that are known are kept while more are learnt, and those beyond a limit are refused.
use Rattle.std.proofs.Common.{◌≡◌, ◌≢◌, ◌<◌, ◌⊎◌, inl, inr, ℕ, Bool, IsTrue, List, Option, Some, None, IfSome, set, slice_get, get_or, refl, sym, ap, ◌∙◌, subst, arith}
use Rattle.std.specs.Prelude.{option_map}
use Rattle.std.proofs.lemmas.List.{length-set, get_or-set_same, get_or-set_other}
use Rattle.std.proofs.lemmas.Bool.{cases_eq}
use Rattle.std.proofs.lemmas.Option.{slice_get-get_or, slice_get_within, get_or_from_slice_get, slice_get-map}
use Rattle.syntax.specs.Tree.{Form, Tree}
use Rattle.syntax.specs.View.{form, tree, assignment}
use Rattle.syntax.specs.declared.tree.Assignment.{Assignment}
use Rattle.syntax.specs.declared.tree.Module.{Module}
use Rattle.builtin_types.specs.declared.stop.Cause.{Cause}
use Rattle.notation.specs.Size.{HaveSize}
use Rattle.notation.specs.Refused.{NeverHasType}
use Rattle.notation.specs.Known.{IsNewScope}
use Rattle.notation.specs.Weighed.{IsWeight, AreWeighed, CanWeigh}
use Rattle.notation.specs.declared.scope.Seen.{Seen}
use Rattle.notation.specs.declared.scope.Scope.{Scope}
use Rattle.notation.specs.declared.weight.Weight.{Weight}
use Rattle.notation.proofs.RefusedLemmas.{never-large}
use Rattle.notation.proofs.WeighedLemmas.{weighs_unless}

cause_or_none : (cause : Option Cause) → (cause ≡ None) ⊎ (cause ≡ None → ⊥)
cause_or_none None = inl refl
cause_or_none (Some cause) = inr (λ e. absurd cc)

-- too many nodes or levels
pub weighs_limited : (m : Tree) (form : Form) (w v : Weight) (fits : Bool) → (IsTrue fits → v ≡ w) → (v.cause ≡ None → IsTrue fits) → ((IsTrue fits → ⊥) → (4_096 < w.nodes) ⊎ (60 < w.levels)) → IsWeight m form w → IsWeight m form v
weighs_limited m form w v fits kept refused large h =
    weighs_unless (HaveSize m form) (NeverHasType m form) w v fits kept refused (λ lost. elim (cause_or_none w.cause) [
      | inl none ↦ never-large m form w.nodes w.levels (h.size none) (large lost)
      | inr some ↦ h.never some
    ]) h

pub body_is : (body : Form) (o : Option (List ℕ × Form)) (a : List ℕ × Form) → Some body ≡ option_map (λ (b : List ℕ × Form). b.1) o → o ≡ Some a → body ≡ a.1
body_is body o a is at = one_body (is ∙ ap (option_map (λ (b : List ℕ × Form). b.1)) at)
  where
    one_body : Some body ≡ Some a.1 → body ≡ a.1
    one_body e = cc

-- nothing is known yet
pub weighed_start : (m : Module) (scope : Scope) → IsNewScope m scope → AreWeighed m scope
weighed_start m scope new = λ place a s at known. absurd (new.new place s known)

-- what a look tells, in the scope's module
pub look_weighs : (m own : Module) (scope : Scope) (place : ℕ) (x : Option Seen) → own ≡ m → IfSome x (λ s. (a : List ℕ × Form) → slice_get (tree own).assignments place ≡ Some a → CanWeigh own scope a.1 → IsWeight (tree own) a.1 s.weight)
    → ((a : List ℕ × Form) → slice_get (tree m).assignments place ≡ Some a → CanWeigh m scope a.1) → IfSome x (λ s. (a : List ℕ × Form) → slice_get (tree m).assignments place ≡ Some a → IsWeight (tree m) a.1 s.weight)
look_weighs m own scope place None e h can = tt
look_weighs m own scope place (Some s) e h can =
    λ a at. subst (λ (n : Module). (b : List ℕ × Form) → slice_get (tree n).assignments place ≡ Some b → CanWeigh n scope b.1 → IsWeight (tree n) b.1 s.weight) e h a at (can a at)

-- one more weight is known
pub weighed_more : (m : Module) (scope after : Scope) (place : ℕ) (x : Option Seen) → after.seen.items ≡ set scope.seen.items place x → IfSome x (λ s. (a : List ℕ × Form) → slice_get (tree m).assignments place ≡ Some a → IsWeight (tree m) a.1 s.weight)
    → AreWeighed m scope → AreWeighed m after
weighed_more m scope after place x is weighs h = λ p a s at known. by_place p a s at (subst (λ (xs : List (Option Seen)). slice_get xs p ≡ Some (Some s)) is known) (cases_eq place p)
  where
    by_value : (o : Option Seen) (p : ℕ) (a : Assignment) (s : Seen) → o ≡ Some s → IfSome o (λ t. (b : List ℕ × Form) → slice_get (tree m).assignments p ≡ Some b → IsWeight (tree m) b.1 t.weight) → slice_get m.assignments.items p ≡ Some a → IsWeight (tree m) (form a.body) s.weight
    by_value None p a s e g at = absurd cc
    by_value (Some t) p a s e g at = let same : t ≡ s = cc in subst (λ (u : Seen). IsWeight (tree m) (form a.body) u.weight) same (g (assignment a) (slice_get-map assignment m.assignments.items p ∙ ap (option_map assignment) at))

    by_place : (p : ℕ) (a : Assignment) (s : Seen) → slice_get m.assignments.items p ≡ Some a → slice_get (set scope.seen.items place x) p ≡ Some (Some s) → (place ≡ p) ⊎ (place ≢ p) → IsWeight (tree m) (form a.body) s.weight
    by_place p a s at known (inr ne) =
        let within = slice_get_within (set scope.seen.items place x) p (Some s) known in
        let long = length-set scope.seen.items place x in
        let here : get_or scope.seen.items p None ≡ Some s = sym (get_or-set_other scope.seen.items place p x None (λ same. ne (sym same))) ∙ get_or_from_slice_get (set scope.seen.items place x) p (Some s) None known in
        h p a s at (slice_get-get_or scope.seen.items p None (omega (arith, within, long)) ∙ ap Some here)
    by_place p a s at known (inl same) =
        let known_here : slice_get (set scope.seen.items place x) place ≡ Some (Some s) = ap (slice_get (set scope.seen.items place x)) same ∙ known in
        let within = slice_get_within (set scope.seen.items place x) place (Some s) known_here in
        let long = length-set scope.seen.items place x in
        let here : x ≡ Some s = sym (get_or-set_same scope.seen.items place x None (omega (arith, within, long))) ∙ get_or_from_slice_get (set scope.seen.items place x) place (Some s) None known_here in
        by_value x place a s here weighs (ap (slice_get m.assignments.items) same ∙ at)
