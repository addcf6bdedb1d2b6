use Rattle.std.proofs.Common.{rules}
use Rattle.octets.specs.declared.tag.Tag.{Tag}
use Rattle.canon.specs.declared.spans.Keyed.{Keyed}
use Rattle.canon.proofs.SortLemmas.{rises_by_tag, rises_from_sorted, sorted_from_adjacent}
use Rattle.canon.proofs.spans.rise.Goals as goal

pub returns : goal.returns
returns c = λ is.
    let tag = λ (p : Keyed Tag). p.key in
    rises_from_sorted tag c.args.parts.now (sorted_from_adjacent (rises_by_tag tag) c.args.parts.now c.is_sorted_by.result c.is_sorted_by.ensures.cases (λ a r g h. search rules) is)
