use Rattle.std.proofs.Common.{ap, map, ◌∙◌}
use Rattle.types.specs.Shape.{StringType}
use Rattle.types.specs.View.{ty_view, named_bit_view}
use Rattle.types.proofs.ViewLemmas.{ty-Bits, ty-NamedBits}
use Rattle.syntax.specs.View.{value_view as written_view}
use Rattle.builtin_types.proofs.TakenLemmas.{taken_by_string}
use Rattle.builtin_types.proofs.defaults.+taken.Goals as goal

pub returns-in-Bits : goal.returns-in-Bits
returns-in-Bits t c =
    taken_by_string (ty_view c.args.ty.now) c.in-Bits.field-0 StringType.bit_string (written_view c.args.written.now) c.bits.result (ap ty_view c.in-Bits.is ∙ ty-Bits c.in-Bits.field-0) c.bits.ensures

pub returns-in-NamedBits : goal.returns-in-NamedBits
returns-in-NamedBits t c =
    let names = map named_bit_view c.in-NamedBits.field-1.items in
    taken_by_string (ty_view c.args.ty.now) c.in-NamedBits.field-0 (StringType.named_bits names) (written_view c.args.written.now) c.named_bits.result (ap ty_view c.in-NamedBits.is ∙ ty-NamedBits c.in-NamedBits.field-0 c.in-NamedBits.field-1) (c.named_bits.ensures names)
