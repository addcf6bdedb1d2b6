use Rattle.std.proofs.Common.{◌<◌, ℕ, All, arith, rules}
use Rattle.std.proofs.lemmas.List.Elements.{All-from_get_or}
use Rattle.std.proofs.lemmas.List.Sorted.{All-permutation}
use Rattle.canon.specs.declared.ordering.Placed.{Placed}
use Rattle.canon.specs.Keyed.{HasKey, compared}
use Rattle.canon.specs.Span.{part_of}
use Rattle.canon.proofs.KeyLemmas.{compared_decides}
use Rattle.canon.proofs.SortLemmas.{all_from_map, ascends_from_sort_by}
use Rattle.canon.proofs.ordering.sort_up.Goals as goal

pub returns-clause-ascends : goal.returns-clause-ascends
returns-clause-ascends c =
    let buffer = c.args.buffer.now in
    let HasItsKey = λ (p : Placed). HasKey buffer p.keyed in
    let octets : All (λ d. d < 256) buffer = All-from_get_or {X = ℕ} (λ d. d < 256) buffer 0 (λ k below. omega (arith, c.type_inv.buffer k)) in
    let keys : All HasItsKey _ = All-permutation HasItsKey _ _ c.sort_unstable_by.ensures.permutation (all_from_map (HasKey buffer) (λ (p : Placed). p.keyed) _ c.requires.keys) in
    ascends_from_sort_by (λ (p : Placed). compared buffer p.keyed) (λ (p : Placed). part_of buffer p.keyed.span) HasItsKey _ (λ a b g h. compared_decides buffer octets b.keyed a.keyed h g) keys
    c.sort_unstable_by.ensures.sorted (λ a r g h. search rules)
