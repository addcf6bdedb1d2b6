use Rattle.std.proofs.Common.{◌<◌, ℕ, All, arith, rules}
use Rattle.std.proofs.lemmas.List.Elements.{All-from_get_or}
use Rattle.canon.specs.declared.spans.Keyed.{Keyed}
use Rattle.canon.specs.Keyed.{HasKey, compared}
use Rattle.canon.specs.Span.{part_of}
use Rattle.canon.proofs.KeyLemmas.{compared_decides}
use Rattle.canon.proofs.SortLemmas.{rises, ascends_by, sorted_from_adjacent}
use Rattle.canon.proofs.spans.ascend.Goals as goal

pub returns : goal.returns
returns c = λ is.
    let buffer = c.args.buffer.now in
    let octets : All (λ d. d < 256) buffer = All-from_get_or {X = ℕ} (λ d. d < 256) buffer 0 (λ k below. omega (arith, c.type_inv.buffer k)) in
    ascends_by (compared buffer) (λ (one : Keyed ℕ). part_of buffer one.span) (HasKey buffer) c.args.parts.now (λ a b g h. compared_decides buffer octets b a h g) c.requires
    (sorted_from_adjacent (rises (compared buffer)) c.args.parts.now c.is_sorted_by.result c.is_sorted_by.ensures.cases (λ a r g h. search rules) is)
