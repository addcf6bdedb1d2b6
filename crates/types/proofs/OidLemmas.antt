-- Lemmas on the arcs of an OBJECT IDENTIFIER.
use Rattle.std.proofs.Common.{◌≡◌, ℕ, ◌+◌, ◌*◌, ◌^◌, ◌<◌, List, ◌∷◌, length, refl, subst, arith, All}
use Rattle.std.proofs.lemmas.List.Elements.{All-cons, All-head}
use Rattle.primitives.specs.Oid.{IsOidValue}
use Rattle.types.specs.Arcs.{CanShare}

pub oid_value : (first second : ℕ) (rest : List ℕ) → CanShare first second → length rest < 128 → All (λ n. n < 2 ^ 128) rest → IsOidValue (first ∷ second ∷ rest)
oid_value first second rest share few below = record {
  numbers = (40 * first + second) ∷ rest;
  of_arcs = record { first = first; second = second; others = rest; arcs_are = refl; at_most_2 = share.at_most_2; at_most_39 = share.at_most_39; numbers_are = refl };
  within = record { few = omega arith; below = All-cons (λ n. n < 2 ^ 128) (40 * first + second) rest share.within below };
}

pub can_share_of_value : (first second : ℕ) (rest : List ℕ) → IsOidValue (first ∷ second ∷ rest) → CanShare first second
can_share_of_value first second rest h =
    let arcs = h.of_arcs in
    let one : first ≡ arcs.first = cc arcs.arcs_are in
    let two : second ≡ arcs.second = cc arcs.arcs_are in
    let below : All (λ n. n < 2 ^ 128) ((40 * arcs.first + arcs.second) ∷ arcs.others) = subst (All (λ n. n < 2 ^ 128)) arcs.numbers_are h.within.below in
    let shared = All-head (λ n. n < 2 ^ 128) (40 * arcs.first + arcs.second) arcs.others below in
    record {
      at_most_2 = omega (arith, one, arcs.at_most_2);
      at_most_39 = λ low. let most = arcs.at_most_39 (omega (arith, one)) in omega (arith, two);
      within = omega (arith, one, two, shared);
    }
