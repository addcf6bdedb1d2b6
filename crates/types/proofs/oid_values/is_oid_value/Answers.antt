use Rattle.std.proofs.Common.{◌≡◌, ◌<◌, ◌^◌, All, ℕ, List, ◌∷◌, IsTrue, ◌∙◌, ap, sym, subst, arith}
use Rattle.std.proofs.lemmas.List.Elements.{All-from_get_or, All-tail}
use Rattle.primitives.specs.Oid.{IsOidValue}
use Rattle.types.proofs.OidLemmas.{oid_value, can_share_of_value}
use Rattle.types.proofs.oid_values.is_oid_value.Goals as goal

pub returns-then-rest-lt-MAX_SUBIDENTIFIERS : goal.returns-then-rest-lt-MAX_SUBIDENTIFIERS
returns-then-rest-lt-MAX_SUBIDENTIFIERS c =
    let first = c.in-Some.first.now in
    let second = c.in-Some-split_first.second.now in
    let rest = c.in-Some-split_first.rest.now in
    let whole : c.args.arcs.now ≡ first ∷ second ∷ rest = c.in-Some.ensures.cases.0 ∙ ap (λ l. first ∷ l) c.in-Some-split_first.ensures.cases.0 in
    let fits : All (λ n. n < 2 ^ 128) c.args.arcs.now = All-from_get_or {X = ℕ} (λ n. n < 2 ^ 128) c.args.arcs.now 0 (λ i below. omega (arith, c.type_inv.arcs i)) in
    let tails : All (λ n. n < 2 ^ 128) (first ∷ second ∷ rest) = subst (All (λ n. n < 2 ^ 128)) whole fits in
    let tail : All (λ n. n < 2 ^ 128) rest = All-tail (λ n. n < 2 ^ 128) second rest (All-tail (λ n. n < 2 ^ 128) first (second ∷ rest) tails) in
    let P : List ℕ → Type 0 = λ arcs. (IsTrue c.can_share.result → IsOidValue arcs) × (IsOidValue arcs → IsTrue c.can_share.result) in
    subst P (sym whole) (
      λ h. oid_value first second rest (c.can_share.ensures.0 h) c.if-rest-lt-MAX_SUBIDENTIFIERS.true tail,
      λ h. c.can_share.ensures.1 (can_share_of_value first second rest h),
    )
