-- Weights through a node around a part, a cause to refuse, and parts beside one another.
use Rattle.std.proofs.Common.{◌≡◌, ◌+◌, ◌↔◌, ◌⊎◌, inl, inr, ℕ, max, Bool, true, false, Option, Some, None, IsTrue, refl, sym, ◌∙◌, subst}
use Rattle.std.proofs.lemmas.Bool.{false≢true}
use Rattle.builtin_types.specs.declared.stop.Cause.{Cause}
use Rattle.notation.specs.Size.{counted}
use Rattle.notation.specs.Weighed.{Weighs}
use Rattle.notation.specs.declared.weight.Weight.{Weight}

-- what has no good type whatever is weighed
pub weighs_any : (HaveThese : ℕ → ℕ → Type 0) (Never : Type 0) (w : Weight) → ((nodes levels : ℕ) → HaveThese nodes levels) → Never → Weighs HaveThese Never w
weighs_any HaveThese Never w h none = record { size = λ e. h w.nodes w.levels; never = λ some. none }

-- no cause, and just these nodes and levels
pub weighs_just : (HaveThese : ℕ → ℕ → Type 0) (Never : Type 0) (w : Weight) (nodes levels : ℕ) → w.nodes ≡ nodes → w.levels ≡ levels → w.cause ≡ None → HaveThese nodes levels → Weighs HaveThese Never w
weighs_just HaveThese Never w nodes levels n l none h = record {
  size = λ e. subst (λ (i : ℕ). HaveThese i w.levels) (sym n) (subst (λ (i : ℕ). HaveThese nodes i) (sym l) h);
  never = λ some. absurd (some none);
}

-- the same cause, with nodes and levels counted on
pub weighs_on : (HaveThese HaveThose : ℕ → ℕ → Type 0) (Never Refused : Type 0) (w v : Weight) (count deepen : ℕ → ℕ) → v.nodes ≡ count w.nodes → v.levels ≡ deepen w.levels → v.cause ≡ w.cause
    → ((nodes levels : ℕ) → HaveThese nodes levels → HaveThose (count nodes) (deepen levels)) → (Never → Refused) → Weighs HaveThese Never w → Weighs HaveThose Refused v
weighs_on HaveThese HaveThose Never Refused w v count deepen nodes levels cause forth refuse h = record {
  size = λ e.
      subst (λ (n : ℕ). HaveThose n v.levels) (sym nodes) (subst (λ (l : ℕ). HaveThose (count w.nodes) l) (sym levels) (forth w.nodes w.levels (h.size (sym cause ∙ e))));
  never = λ some. refuse (h.never (λ e. some (cause ∙ e)));
}

-- the very same weight
pub weighs_as : (HaveThese HaveThose : ℕ → ℕ → Type 0) (Never Refused : Type 0) (w : Weight) → ((nodes levels : ℕ) → HaveThese nodes levels → HaveThose nodes levels) → (Never → Refused) → Weighs HaveThese Never w → Weighs HaveThose Refused w
weighs_as HaveThese HaveThose Never Refused w forth refuse h = record { size = λ e. forth w.nodes w.levels (h.size e); never = λ some. refuse (h.never some) }

by_test : {A : Type 0} (holds : Bool) → (IsTrue holds → A) → ((IsTrue holds → ⊥) → A) → A
by_test true kept lost = kept refl
by_test false kept lost = lost (λ e. false≢true e)

-- refused for one cause more
pub weighs_unless : (HaveThese : ℕ → ℕ → Type 0) (Never : Type 0) (w v : Weight) (holds : Bool) → (IsTrue holds → v ≡ w) → (v.cause ≡ None → IsTrue holds) → ((IsTrue holds → ⊥) → Never) → Weighs HaveThese Never w → Weighs HaveThese Never v
weighs_unless HaveThese Never w v holds kept refused none h = record {
  size = λ e. let same = kept (refused e) in subst (λ (x : Weight). HaveThese x.nodes x.levels) (sym same) (h.size (subst (λ (x : Weight). x.cause ≡ None) same e));
  never = λ some. by_test holds (λ yes. h.never (λ e. some (subst (λ (x : Weight). x.cause ≡ None) (sym (kept yes)) e))) none;
}

none_or_some : (cause : Option Cause) → (cause ≡ None) ⊎ (cause ≡ None → ⊥)
none_or_some None = inl refl
none_or_some (Some cause) = inr (λ e. absurd cc)

-- two parts beside one another
pub weighs_beside : (HaveThese HaveThose HaveAll : ℕ → ℕ → Type 0) (Never Refused Neither : Type 0) (w v both : Weight) → both.nodes ≡ counted (w.nodes + v.nodes) → both.levels ≡ max w.levels v.levels → both.cause ≡ None ↔ ((w.cause ≡ None) × (v.cause ≡ None))
    → ((nodes levels more deep : ℕ) → HaveThese nodes levels → HaveThose more deep → HaveAll (counted (nodes + more)) (max levels deep)) → (Never → Neither) → (Refused → Neither) → Weighs HaveThese Never w → Weighs HaveThose Refused v → Weighs HaveAll Neither both
weighs_beside HaveThese HaveThose HaveAll Never Refused Neither w v both nodes levels cause join first later h g = record {
  size = λ e.
      let causes = cause.0 e in
      subst (λ (n : ℕ). HaveAll n both.levels) (sym nodes) (subst (λ (l : ℕ). HaveAll (counted (w.nodes + v.nodes)) l) (sym levels) (join w.nodes w.levels v.nodes v.levels (h.size causes.0) (g.size causes.1)));
  never = λ some.
      elim (none_or_some w.cause) [
        | inr not ↦ first (h.never not)
        | inl none ↦ later (g.never (λ e. some (cause.1 (none, e))))
      ];
}
