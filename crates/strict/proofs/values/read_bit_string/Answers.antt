use Rattle.std.proofs.Common.{◌≡◌, Err, refl, ap, sym, ◌∙◌, subst}
use Rattle.octets.specs.Rule.{ber, der}
use Rattle.octets.proofs.ResultLemmas.{IfOk-map, IfErr-all}
use Rattle.primitives.specs.Bits.{IsBits}
use Rattle.primitives.proofs.BitsLemmas.{one_bits_value, canonical_bits_are_ber}
use Rattle.types.specs.Conforms.{Conforms}
use Rattle.types.specs.View.{ty_view, value_view}
use Rattle.encoding_parts.specs.Contents.{HoldsContents}
use Rattle.strict.specs.Leaf.{bits_view}
use Rattle.strict.proofs.UnusedLemmas.{bits_held, holds_bits}
use Rattle.strict.proofs.values.read_bit_string.Goals as goal

pub returns-then-has_zeros_unused-clause-value : goal.returns-then-has_zeros_unused-clause-value
returns-then-has_zeros_unused-clause-value c =
    let type = ty_view c.args.ty.now in
    let contents = c.args.contents.now in
    let bits = c.in-Ok.bits in
    let spelt : IsBits der bits contents = (c.if-has_zeros_unused.ensures bits c.in-Ok.ensures.value).0 refl in
    IfOk-map c.bits_value.result _ (λ value. Conforms type (value_view value) × HoldsContents der type (value_view value) contents)
    (λ value h.
    let holds = holds_bits type bits contents c.requires (subst (Conforms type) h.0 h.1) spelt in
    (h.1, subst (λ v. HoldsContents der type v contents) (sym h.0) holds))
    c.bits_value.ensures.value

pub returns-then-has_zeros_unused-clause-none : goal.returns-then-has_zeros_unused-clause-none
returns-then-has_zeros_unused-clause-none c =
    let type = ty_view c.args.ty.now in
    let contents = c.args.contents.now in
    let bits = c.in-Ok.bits in
    IfErr-all c.bits_value.result _ (λ err refusal final v conforms holds.
    let k = bits_held type v contents c.requires holds in
    let same : k.bits ≡ bits = one_bits_value der ber k.bits bits contents k.spelt c.in-Ok.ensures.value in
    c.bits_value.ensures.none err (subst (Conforms type) (k.is ∙ ap bits_view same) conforms))

pub returns-in-Err-Contents-clause-none : goal.returns-in-Err-Contents-clause-none
returns-in-Err-Contents-clause-none c = λ final v conforms holds.
    let contents = c.args.contents.now in
    let k = bits_held (ty_view c.args.ty.now) v contents c.requires holds in
    c.in-Err-Contents.ensures.none (ap Err c.in-Err-Contents.field-0-is) k.bits (canonical_bits_are_ber der k.bits contents k.spelt)
