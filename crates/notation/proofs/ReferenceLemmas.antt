-- A name that reaches itself, or a name that is not assigned, means no type.
use Rattle.std.proofs.Common.{inl, inr, ℕ, List, [], refl, sym, subst, Contains}
use Rattle.std.proofs.lemmas.List.Elements.{Contains-append_cases}
use Rattle.types.specs.Shape.{Shape, Components, Alternatives}
use Rattle.types.proofs.ListLemmas.{not_in_nil, contains_first, contains_cases}
use Rattle.syntax.specs.Tree.{Form, Components as WrittenComponents, Alternatives as WrittenAlternatives, Tree}
use Rattle.notation.specs.Meaning.{IsMeaning, of_words, of_reference, of_tag, of_items, of_named_bits, of_components, of_item_type, of_alternatives, AreMeanings, no_more, one_more, AreAlternativeMeanings, no_other, one_other, NameMeans}
use Rattle.notation.specs.References.{names_in, names_in_components, names_in_alternatives, IsClosed}

module _ (m : Tree) (IsOne : List ℕ → Type 0) (closed : IsClosed m IsOne) where
  mutual
    -- an expression that refers to one of a closed set of names means nothing
    pub nothing_meant : {form : Form} {type : Shape} → IsMeaning m form type → (name : List ℕ) → Contains (names_in form) name → IsOne name → ⊥
    nothing_meant (of_words e) name c h = not_in_nil name c
    nothing_meant (of_reference {name = own} {form} a d) name c h =
        elim (contains_cases own name [] c) [ inl same ↦ let v = closed own (subst IsOne (sym same) h) form a in nothing_meant d v.0 v.1 v.2 | inr none ↦ not_in_nil name none ]
    nothing_meant (of_tag d t) name c h = nothing_meant d name c h
    nothing_meant (of_items n a e) name c h = not_in_nil name c
    nothing_meant (of_named_bits n e) name c h = not_in_nil name c
    nothing_meant (of_components n ds e) name c h = nothing_meant_in ds name c h
    nothing_meant (of_item_type d e) name c h = nothing_meant d name c h
    nothing_meant (of_alternatives n ds e) name c h = nothing_meant_among ds name c h

    pub nothing_meant_in : {written : WrittenComponents} {types : Components} → AreMeanings m written types → (name : List ℕ) → Contains (names_in_components written) name → IsOne name → ⊥
    nothing_meant_in no_more name c h = not_in_nil name c
    nothing_meant_in (one_more {form} {others} d r ds) name c h =
        elim (Contains-append_cases (names_in form) (names_in_components others) name c) [ inl p ↦ nothing_meant d name p h | inr p ↦ nothing_meant_in ds name p h ]

    pub nothing_meant_among : {written : WrittenAlternatives} {types : Alternatives} → AreAlternativeMeanings m written types → (name : List ℕ) → Contains (names_in_alternatives written) name → IsOne name → ⊥
    nothing_meant_among no_other name c h = not_in_nil name c
    nothing_meant_among (one_other {form} {others} d ds) name c h =
        elim (Contains-append_cases (names_in form) (names_in_alternatives others) name c) [ inl p ↦ nothing_meant d name p h | inr p ↦ nothing_meant_among ds name p h ]

  pub name_means_nothing : (name : List ℕ) → IsOne name → (type : Shape) → NameMeans m name type → ⊥
  name_means_nothing name h type d = nothing_meant d.meaning name (contains_first name name [] refl) h
