use Rattle.std.proofs.Common.{◌≡◌, ◌<◌, ℕ, false, ◌++◌, replicate, All, Err, refl, sym, ap, ◌∙◌, subst, subst₂, arith}
use Rattle.std.proofs.lemmas.List.Elements.{All-from_get_or}
use Rattle.octets.specs.Rule.{ber}
use Rattle.octets.proofs.ResultLemmas.{IfErr-from, IfOk-map}
use Rattle.primitives.specs.declared.fault.Fault as fault
use Rattle.types.specs.Refusal.{IsFinal}
use Rattle.types.specs.Shape.{StringType, StringValue, Shape, Val}
use Rattle.types.proofs.ViewLemmas.{ty-Bits, ty-NamedBits, ty-Octets}
use Rattle.types.specs.View.{ty_view, value_view}
use Rattle.types.specs.OfContents.{refusal_of_fault}
use Rattle.encoding_parts.specs.Contents.{HoldsContents, HoldsNoValue, HoldsValue, octets_view}
use Rattle.encoding_parts.proofs.contents.read_contents.Goals as goal

contents_fault : (f : fault.Fault) → IsFinal (refusal_of_fault f) → f ≡ fault.TheVariants.Contents
contents_fault fault.TheVariants.Contents h = refl
contents_fault fault.TheVariants.NoMemory h = absurd h

pub returns-in_err-read_bits-in-Bits-clause-none : goal.returns-in_err-read_bits-in-Bits-clause-none
returns-in_err-read_bits-in-Bits-clause-none c =
    let contents = c.args.contents.now in
    let stop = c.from_residual-in_err-read_bits-in-Bits in
    IfErr-from stop.result _ (λ refusal. IsFinal refusal → HoldsNoValue ber (ty_view c.args.ty.now) contents) stop.ensures.1
    (λ refusal same final v conforms holds.
    let known = contents_fault c.in_err-read_bits-in-Bits.field-0.0 (subst IsFinal same final) in
    let bits = subst (λ (shape : Shape). HoldsContents ber shape v contents) (ap ty_view c.in-Bits.is ∙ ty-Bits c.in-Bits.field-0) holds in
    c.in_err-read_bits-in-Bits.ensures.none (ap Err known) bits.spelt.bits bits.spelt.spelt)

pub returns-in_err-read_bits-in-NamedBits-clause-none : goal.returns-in_err-read_bits-in-NamedBits-clause-none
returns-in_err-read_bits-in-NamedBits-clause-none c =
    let contents = c.args.contents.now in
    let arm = c.in-NamedBits in
    let stop = c.from_residual-in_err-read_bits-in-NamedBits in
    IfErr-from stop.result _ (λ refusal. IsFinal refusal → HoldsNoValue ber (ty_view c.args.ty.now) contents) stop.ensures.1
    (λ refusal same final v conforms holds.
    let known = contents_fault c.in_err-read_bits-in-NamedBits.field-0.0 (subst IsFinal same final) in
    let bits = subst (λ (shape : Shape). HoldsContents ber shape v contents) (ap ty_view arm.is ∙ ty-NamedBits arm.field-0 arm.field-1) holds in
    c.in_err-read_bits-in-NamedBits.ensures.none (ap Err known) (bits.spelt.bits ++ replicate bits.spelt.zeros false) bits.spelt.spelt)

pub returns-in-Octets-clause-value : goal.returns-in-Octets-clause-value
returns-in-Octets-clause-value c =
    let contents = c.args.contents.now in
    let fits : All (λ octet. octet < 256) contents = All-from_get_or {X = ℕ} (λ octet. octet < 256) contents 0 (λ i below. omega (arith, c.type_inv.contents i)) in
    let holds : HoldsValue ber (Shape.string c.in-Octets.field-0 StringType.octet_string) (octets_view contents) contents = (fits, record { value = StringValue.octets contents; is = refl; spelt = refl }) in
    IfOk-map c.read_octets.result _ (λ value. HoldsValue ber (ty_view c.args.ty.now) (value_view value) contents)
    (λ value is. subst₂ (λ (shape : Shape) (w : Val). HoldsValue ber shape w contents) (sym (ap ty_view c.in-Octets.is ∙ ty-Octets c.in-Octets.field-0)) (sym is) holds)
    c.read_octets.ensures.value
