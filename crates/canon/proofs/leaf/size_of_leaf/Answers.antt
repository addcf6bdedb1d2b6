use Rattle.std.proofs.Common.{◌≡◌, ◌⊎◌, ◌∙◌, ◌∷◌, [], inl, inr, ℕ, ℤ, Bool, Vec, Global, refl, sym, ap, subst, arith, false}
use Rattle.octets.specs.Rule.{rule_of}
use Rattle.types.specs.Strings.{bit_segment, octet_segment}
use Rattle.types.specs.Shape.{SimpleValue, Val}
use Rattle.types.specs.declared.value.Value.{Value}
use Rattle.types.specs.declared.value.Value as value_is
use Rattle.types.specs.View.{value_view}
use Rattle.types.proofs.ViewLemmas.{value-Boolean, value-Integer, value-WideInteger, value-Enumerated, value-Null, value-Oid, value-RelativeOid}
use Rattle.canon.specs.Leaf.{IsLeafValue, IsSimple}
use Rattle.canon.proofs.AlikeLemmas.{size_alike}
use Rattle.canon.proofs.LeafLemmas.{bits_size, octets_size, simply_alike}
use Rattle.canon.proofs.SimpleLemmas.{simple_size}
use Rattle.canon.proofs.leaf.size_of_leaf.Goals as goal

pub returns-in-Bits-clause-size : goal.returns-in-Bits-clause-size
returns-in-Bits-clause-size c =
    let padded = c.octets.ensures in
    let string = c.octets.result.now in
    bits_size c.args.rule c.args.tag c.args.value.now c.in-Bits.bits padded.0 string c.size_of_string.result c.in-Bits.is c.requires.tag padded.1
    (c.size_of_string.ensures.size bit_segment (0 ∷ []) (padded.0 ∷ []) string (omega arith) refl refl refl)

pub returns-in-Octets-clause-size : goal.returns-in-Octets-clause-size
returns-in-Octets-clause-size c =
    let string = c.in-Octets.octets.items in
    octets_size c.args.rule c.args.tag c.args.value.now c.in-Octets.octets c.size_of_string-in-Octets.result c.in-Octets.is c.requires.tag c.requires.leaf
    (c.size_of_string-in-Octets.ensures.size octet_segment [] [] string (omega arith) refl refl (omega (arith, c.len.ensures)))

-- a value with neither segments nor parts
simple_view : (value : Value)
    → ((truth : Bool) × (value ≡ value_is.Boolean truth)) ⊎ (((number : ℤ) × (value ≡ value_is.Integer number)) ⊎ (((octets : Vec ℕ Global) × (value ≡ value_is.WideInteger octets)) ⊎ (((number : ℤ) × (value ≡ value_is.Enumerated number)) ⊎ ((value ≡ value_is.Null)
    ⊎ (((arcs : Vec ℕ Global) × (value ≡ value_is.Oid arcs)) ⊎ ((arcs : Vec ℕ Global) × (value ≡ value_is.RelativeOid arcs)))))))
    → (simple : SimpleValue) × (value_view value ≡ Val.simple simple)
simple_view value (inl h) = (SimpleValue.boolean h.0, ap value_view h.1 ∙ value-Boolean h.0)
simple_view value (inr (inl h)) = (SimpleValue.integer h.0, ap value_view h.1 ∙ value-Integer h.0)
simple_view value (inr (inr (inl h))) = (SimpleValue.wide_integer h.0.items, ap value_view h.1 ∙ value-WideInteger h.0)
simple_view value (inr (inr (inr (inl h)))) = (SimpleValue.enumerated h.0, ap value_view h.1 ∙ value-Enumerated h.0)
simple_view value (inr (inr (inr (inr (inl is))))) = (SimpleValue.null, ap value_view is ∙ value-Null)
simple_view value (inr (inr (inr (inr (inr (inl h)))))) = (SimpleValue.oid h.0.items, ap value_view h.1 ∙ value-Oid h.0)
simple_view value (inr (inr (inr (inr (inr (inr h)))))) = (SimpleValue.relative_oid h.0.items, ap value_view h.1 ∙ value-RelativeOid h.0)

pub returns-in-Boolean-clause-size : goal.returns-in-Boolean-clause-size
returns-in-Boolean-clause-size c =
    let v = value_view c.args.value.now in
    let is = simple_view c.args.value.now c.in-Boolean.is in
    let simple : IsSimple v = subst IsSimple (sym is.1) (subst IsLeafValue is.1 c.requires.leaf) in
    size_alike _ _ c.size_of_definite.result (simply_alike (rule_of c.args.rule) c.args.tag v simple)
    (simple_size c.args.rule c.args.tag v c.size_of_contents.result c.size_of_definite.result c.requires.tag simple c.size_of_contents.ensures.at_most c.size_of_contents.ensures.size
    (λ inside octets same h. c.size_of_definite.ensures.size false inside octets same h))
