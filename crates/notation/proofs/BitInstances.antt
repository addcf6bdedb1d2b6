-- A BIT STRING with named bits.
use Rattle.std.proofs.Common.{◌≤◌, ℕ, List, [], ◌∷◌, refl, arith}
use Rattle.std.proofs.lemmas.List.Elements.{All-head}
use Rattle.octets.specs.declared.tag.Tag.{Tag}
use Rattle.types.specs.Shape.{NamedBitView, StringType, Shape}
use Rattle.types.proofs.ListLemmas.{contains_first, first_differs}
use Rattle.syntax.specs.declared.tree.TagMode.TheVariants.{Unmarked, Implicit, Explicit}
use Rattle.syntax.specs.declared.tree.Tagging.{Tagging}
use Rattle.syntax.specs.declared.tree.Tagging.TheVariants.{Implicit as ImplicitTags}
use Rattle.syntax.specs.Tree.{Form, named_bits, reference, Tree}
use Rattle.types.specs.Universal.{universal}
use Rattle.builtin_types.specs.Tagging.{context}
use Rattle.builtin_types.proofs.NameInstances.{a, b, apart, two_names}
use Rattle.notation.specs.Meaning.{IsMeaning, of_reference, of_tag, of_named_bits}
use Rattle.notation.specs.Refused.{NeverHasType}
use Rattle.notation.proofs.LimitLemmas.{never-bits}
use Rattle.notation.proofs.TagInstances.{with_assignments, alone, u-name, behind}

-- `BIT STRING { a(0), b(7) }`
abbrev flags : Form
flags = named_bits ((a, 0) ∷ (b, 7) ∷ [])

abbrev a_view : NamedBitView
a_view = record { name = a; number = 0 }

abbrev b_view : NamedBitView
b_view = record { name = b; number = 7 }

abbrev flags_type : Tag → Shape
flags_type tag = Shape.string tag (StringType.named_bits (a_view ∷ b_view ∷ []))

flags_meaning : (m : Tree) → IsMeaning m flags (flags_type (universal 3))
flags_meaning m = of_named_bits (two_names a b (apart 97 98 (λ e. absurd (omega (arith, e))))) refl

-- `[1] IMPLICIT` and `[1] EXPLICIT` in front of it
under_implicit : (environment : Tagging) → IsMeaning (alone environment) (behind 1 Implicit flags) (flags_type (context 1))
under_implicit environment = of_tag {type = flags_type (universal 3)} (flags_meaning (alone environment)) ((λ c. c), refl)

under_explicit : (environment : Tagging) → IsMeaning (alone environment) (behind 1 Explicit flags) (Shape.explicit (context 1) (flags_type (universal 3)))
under_explicit environment = of_tag {type = flags_type (universal 3)} (flags_meaning (alone environment)) refl

-- `[1] U` under IMPLICIT TAGS, where U is it
abbrev u_module : Tree
u_module = with_assignments ImplicitTags ((u-name, flags) ∷ [])

referred : IsMeaning u_module (behind 1 Unmarked (reference u-name)) (flags_type (context 1))
referred = of_tag {type = flags_type (universal 3)} (of_reference {form = flags} (contains_first (u-name, flags) (u-name, flags) [] refl) (flags_meaning u_module)) refl

-- `BIT STRING { a(0), a(1) }` means nothing
equal_names : (m : Tree) (type : Shape) → IsMeaning m (named_bits ((a, 0) ∷ (a, 1) ∷ [])) type → ⊥
equal_names m type (of_named_bits differ e) = first_differs a (a ∷ []) differ (contains_first a a [] refl)

-- and those never have a type whose numbers are equal or pass 65,535, or of which there is none
equal_numbers : (m : Tree) → NeverHasType m (named_bits ((a, 5) ∷ (b, 5) ∷ []))
equal_numbers m = never-bits m ((a, 5) ∷ (b, 5) ∷ []) (λ h. first_differs 5 (5 ∷ []) h.numbers_differ (contains_first 5 5 [] refl))

great_number : (m : Tree) → NeverHasType m (named_bits ((a, 65_536) ∷ []))
great_number m = never-bits m ((a, 65_536) ∷ []) (λ h. absurd (let within = All-head (λ (bit : List ℕ × ℕ). bit.1 ≤ 65_535) (a, 65_536) [] h.within in omega (arith, within)))

no_bit : (m : Tree) → NeverHasType m (named_bits [])
no_bit m = never-bits m [] (λ h. absurd (let some = h.some in omega (arith, some)))
