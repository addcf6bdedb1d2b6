use Rattle.std.proofs.Common.{◌≡◌, List, Bool, sym, ap, ◌∙◌, subst, subst₂}
use Rattle.primitives.proofs.BitsLemmas.{bits_before-parts}
use Rattle.types.specs.Conforms.{Conforms}
use Rattle.types.specs.Refusal.{IsFinal}
use Rattle.types.specs.Shape.{StringValue, Shape, Val}
use Rattle.types.proofs.ViewLemmas.{ty-Bits, ty-NamedBits, value-Bits, value-Octets}
use Rattle.types.specs.View.{ty_view, value_view}
use Rattle.types.specs.declared.refusal.Refusal.{Refusal}
use Rattle.types.specs.declared.value.Value.{Value}
use Rattle.encoding_parts.specs.Contents.{text_view}
use Rattle.encoding_parts.specs.Joined.{trimmed_bits, value_of, IsHeldFor}
use Rattle.octets.proofs.ResultLemmas.{IfOk-map, IfErr-all}
use Rattle.encoding_parts.proofs.TrimLemmas.{trimmed_bits_of}
use Rattle.encoding_parts.proofs.TypedLemmas.{octets_value, text_value}
use Rattle.encoding_parts.proofs.joined.Joined.into_value.Goals as goal

pub returns-in-Some-clause-value : goal.returns-in-Some-clause-value
returns-in-Some-clause-value c =
    let f = c.in-Some.ensures.value in
    let bits : List Bool = c.in-Some.bits in
    let v = Val.string (StringValue.bits bits) in
    subst₂ (λ (shape : Shape) (w : Val). (w ≡ value_of shape c.args.self) × Conforms shape w) (sym (ap ty_view c.in-Bits.is ∙ ty-Bits c.in-Bits.field-0)) (sym (value-Bits bits))
    (ap (λ x. Val.string (StringValue.bits x)) (sym (bits_before-parts c.args.self.octets.items c.args.self.unused bits f.tail f.bits_are f.tail_is)), tt)

pub returns-in-Some-new-clause-value : goal.returns-in-Some-new-clause-value
returns-in-Some-new-clause-value c =
    let f = c.in-Some-new.ensures.value in
    let bits : List Bool = c.in-Some-new.bits in
    let front : List Bool = c.trimmed.result in
    let is : front ≡ trimmed_bits bits = sym (ap trimmed_bits c.trimmed.ensures.front.1 ∙ trimmed_bits_of front c.trimmed.ensures.front.0 c.trimmed.ensures.trimmed) in
    let joined = bits_before-parts c.args.self.octets.items c.args.self.unused bits f.tail f.bits_are f.tail_is in
    subst₂ (λ (shape : Shape) (w : Val). (w ≡ value_of shape c.args.self) × Conforms shape w) (sym (ap ty_view c.in-NamedBits.is ∙ ty-NamedBits c.in-NamedBits.field-0 c.in-NamedBits.field-1)) (sym (value-Bits front))
    (ap (λ x. Val.string (StringValue.bits x)) (is ∙ ap trimmed_bits (sym joined)), c.trimmed.ensures.trimmed)

pub returns-in-Text-clause-value : goal.returns-in-Text-clause-value
returns-in-Text-clause-value c =
    IfOk-map c.text_of.result (λ (value : Value). (value_view value ≡ text_view c.args.self.octets.items) × Conforms (ty_view c.args.ty.now) (value_view value))
    (λ (value : Value). (value_view value ≡ value_of (ty_view c.args.ty.now) c.args.self) × Conforms (ty_view c.args.ty.now) (value_view value))
    (λ value h. (h.0 ∙ text_value c.args.ty.now c.args.self c.in-Text.is, h.1)) c.text_of.ensures.value

pub returns-in-Text-clause-none : goal.returns-in-Text-clause-none
returns-in-Text-clause-none c =
    IfErr-all c.text_of.result (λ (refusal : Refusal). IsFinal refusal → Conforms (ty_view c.args.ty.now) (value_of (ty_view c.args.ty.now) c.args.self) → ⊥)
    (λ err refusal final conforms. c.text_of.ensures.none err (subst (Conforms (ty_view c.args.ty.now)) (sym (text_value c.args.ty.now c.args.self c.in-Text.is)) conforms))

pub returns-in-Octets-clause-value : goal.returns-in-Octets-clause-value
returns-in-Octets-clause-value c =
    let shape = ap ty_view c.in-Octets.is in
    let held = subst (λ (s : Shape). IsHeldFor s c.args.self) shape c.requires.held in
    subst₂ (λ (s : Shape) (w : Val). (w ≡ value_of s c.args.self) × Conforms s w) (sym shape) (sym (value-Octets c.args.self.octets)) (octets_value c.in-Octets.field-0 c.args.self held)
