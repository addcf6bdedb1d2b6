-- A SEQUENCE under an implicit tag, which has no SEQUENCE within it (X.690 8.14).
use Rattle.std.proofs.Common.{◌≡◌, ℕ, List, [], ◌∷◌, Option, arith, true}
use Rattle.std.specs.List.{concat}
use Rattle.octets.specs.declared.tag.Class.TheVariants.{Universal, Context}
use Rattle.octets.specs.Rule.{Rule, ber}
use Rattle.types.specs.Shape.{Shape, Val, Slots, required, Components, no_component, component}
use Rattle.types.specs.Encoding.{IsEncoding, standing}
use Rattle.types.proofs.SlotLemmas.{AreFilled, filled}
use Rattle.types.proofs.FormInstances.{universal, context, definite}
use Rattle.types.proofs.LeafInstances.{null}
use Rattle.types.proofs.TypeInstances.{a, higher, not_alone}
use Rattle.types.proofs.ApartInstances.{begins, contents_of, front_with_another_tag}

abbrev one_null : Components
one_null = component a (null (universal 5)) required no_component

-- where one NULL has to stand, no SEQUENCE of it does
no_sequence : (rule : Rule) (slots : Slots) (encodings : List (Option (List ℕ))) → AreFilled rule one_null slots encodings → concat (standing encodings) ≡ 0x30 ∷ 0x02 ∷ 0x05 ∷ 0x00 ∷ [] → ⊥
no_sequence rule slots encodings (AreFilled.left_out n t r m h) whole = absurd m
no_sequence rule slots encodings (AreFilled.stands n t r w y g d AreFilled.no_more) whole =
    front_with_another_tag rule (null (universal 5)) w y [] (0x30 ∷ 0x02 ∷ 0x05 ∷ 0x00 ∷ []) (universal 16) whole (begins Universal 16 true (0x02 ∷ 0x05 ∷ 0x00 ∷ []) (omega arith))
    (λ c. not_alone (universal 16) (universal 5) (higher (universal 16) (universal 5) (omega arith)) c) g

-- so A1 04 30 02 05 00 encodes no value of [1] IMPLICIT SEQUENCE { a NULL }
implicit-within : (rule : Rule) (v : Val) → IsEncoding rule (Shape.sequence (context 1) one_null) v (0xA1 ∷ 0x04 ∷ 0x30 ∷ 0x02 ∷ 0x05 ∷ 0x00 ∷ []) → ⊥
implicit-within rule v h =
    no_sequence rule h.slots h.encodings (filled rule one_null h.slots h.encodings h.each)
    (contents_of rule (context 1) (concat (standing h.encodings)) (0x30 ∷ 0x02 ∷ 0x05 ∷ 0x00 ∷ []) (0xA1 ∷ 0x04 ∷ 0x30 ∷ 0x02 ∷ 0x05 ∷ 0x00 ∷ []) h.whole (definite ber Context 1 true (0x30 ∷ 0x02 ∷ 0x05 ∷ 0x00 ∷ []) (omega arith) (omega arith)))
