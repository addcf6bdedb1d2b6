use Rattle.std.proofs.Common.{List, ◌∙◌, ap, map}
use Rattle.octets.specs.declared.tag.Tag.{Tag}
use Rattle.std.specs.Option.{unwrap_or}
use Rattle.types.specs.Shape.{NamedBitView, Shape, StringType}
use Rattle.types.specs.View.{named_bit_view}
use Rattle.types.proofs.ViewLemmas.{ty-NamedBits}
use Rattle.syntax.specs.View.{bit}
use Rattle.types.specs.Universal.{bit_string_tag}
use Rattle.notation.proofs.ExpandingLemmas.{named_bits_under}
use Rattle.notation.proofs.expanding.bit_string.Goals as goal

pub returns : goal.returns
returns c = λ differ m.
    let bits = c.in_ok-named_bits.field-0 in
    let tag = c.unwrap_or-tag.result in
    named_bits_under m c.args.outer (map bit c.args.bits.now) _ differ
    (ty-NamedBits tag bits ∙ ap (λ (i : Tag). Shape.string i (StringType.named_bits (map named_bit_view bits.items))) (c.unwrap_or-tag.ensures ∙ ap (unwrap_or c.args.outer) c.bit_string_tag.ensures)
    ∙ ap (λ (i : List NamedBitView). Shape.string (unwrap_or c.args.outer bit_string_tag) (StringType.named_bits i)) c.in_ok-named_bits.ensures)
