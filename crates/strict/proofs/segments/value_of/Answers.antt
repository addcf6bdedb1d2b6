use Rattle.std.proofs.Common.{◌≡◌, sym, ◌∙◌, subst}
use Rattle.octets.proofs.ResultLemmas.{IfOk-map, IfErr-map, IfErr-all}
use Rattle.types.specs.Conforms.{Conforms}
use Rattle.types.specs.View.{ty_view, value_view}
use Rattle.encoding_parts.specs.Joined.{string_of}
use Rattle.strict.specs.Leaf.{value_is}
use Rattle.strict.proofs.KindLemmas.{bits_are, octets_are}
use Rattle.strict.proofs.segments.value_of.Goals as goal

pub returns-in-Some-clause-value : goal.returns-in-Some-clause-value
returns-in-Some-clause-value c =
    let type = ty_view c.args.ty.now in
    let kind = c.args.kind in
    let joined = c.args.joined in
    let same = bits_are kind type joined c.in-Some.bits c.in-Bits.is c.in-Some.ensures.value in
    IfOk-map c.bits_value.result _ (λ value. (value_view value ≡ value_is type kind (string_of kind joined)) × Conforms type (value_view value)) (λ value h. (h.0 ∙ sym same, h.1)) c.bits_value.ensures.value

pub returns-in-Some-clause-none : goal.returns-in-Some-clause-none
returns-in-Some-clause-none c =
    let type = ty_view c.args.ty.now in
    let same = bits_are c.args.kind type c.args.joined c.in-Some.bits c.in-Bits.is c.in-Some.ensures.value in
    IfErr-all c.bits_value.result _ (λ err refusal final conforms. c.bits_value.ensures.none err (subst (Conforms type) same conforms))

pub returns-in-Octets-clause-value : goal.returns-in-Octets-clause-value
returns-in-Octets-clause-value c =
    let type = ty_view c.args.ty.now in
    let kind = c.args.kind in
    let joined = c.args.joined in
    let same = octets_are kind type joined c.in-Octets.is c.requires.string in
    IfOk-map c.into_value.result _ (λ value. (value_view value ≡ value_is type kind (string_of kind joined)) × Conforms type (value_view value)) (λ value h. (h.0 ∙ same, h.1)) c.into_value.ensures.value

pub returns-in-Octets-clause-none : goal.returns-in-Octets-clause-none
returns-in-Octets-clause-none c =
    let type = ty_view c.args.ty.now in
    let same = octets_are c.args.kind type c.args.joined c.in-Octets.is c.requires.string in
    IfErr-map c.into_value.result _ _ (λ refusal h final conforms. h final (subst (Conforms type) (sym same) conforms)) c.into_value.ensures.none
