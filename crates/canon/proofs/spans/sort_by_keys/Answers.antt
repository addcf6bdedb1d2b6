use Rattle.std.proofs.Common.{◌<◌, ℕ, All, arith, rules}
use Rattle.std.proofs.lemmas.List.Elements.{All-from_get_or}
use Rattle.std.proofs.lemmas.List.Sorted.{All-permutation}
use Rattle.canon.specs.declared.spans.Keyed.{Keyed}
use Rattle.canon.specs.Keyed.{HasKey, compared}
use Rattle.canon.specs.Span.{part_of}
use Rattle.canon.proofs.KeyLemmas.{compared_decides}
use Rattle.canon.proofs.SortLemmas.{ascends_from_sort_by}
use Rattle.canon.proofs.spans.sort_by_keys.Goals as goal

pub returns-clause-ascends : goal.returns-clause-ascends
returns-clause-ascends c =
    let buffer = c.args.buffer.now in
    let octets : All (λ d. d < 256) buffer = All-from_get_or {X = ℕ} (λ d. d < 256) buffer 0 (λ k below. omega (arith, c.type_inv.buffer k)) in
    ascends_from_sort_by (compared buffer) (λ (one : Keyed ℕ). part_of buffer one.span) (HasKey buffer) _ (λ a b g h. compared_decides buffer octets b a h g)
    (All-permutation (HasKey buffer) _ _ c.sort_unstable_by.ensures.permutation c.requires.keys) c.sort_unstable_by.ensures.sorted (λ a r g h. search rules)
