-- Octets that are encodings of no value of a SET, since a component is missing or one stands twice (X.690 8.11).
use Rattle.std.proofs.Common.{◌≡◌, ℕ, List, [], ◌∷◌, ◌++◌, Option, length, refl, sym, ◌∙◌, ap, arith, true, pos}
use Rattle.std.specs.List.{AllByRecursion, concat}
use Rattle.std.proofs.lemmas.List.Sorted.{length_permutation}
use Rattle.octets.specs.declared.tag.Class.TheVariants.{Universal}
use Rattle.octets.specs.Rule.{Rule, ber}
use Rattle.types.specs.Shape.{Shape, Val, Slots, required, no_component, component}
use Rattle.types.specs.Form.{IsDefinite}
use Rattle.types.specs.Encoding.{IsEncoding, standing}
use Rattle.types.specs.WellFormed.{IsWellFormed}
use Rattle.types.proofs.NestingLemmas.{parts_unique}
use Rattle.types.proofs.BeginningLemmas.{IsOneNested, one_nested_above, one_nested_unique, encoding_is_nested, all_permutation}
use Rattle.types.proofs.BerLemmas.{encoding_by_ber}
use Rattle.types.proofs.SlotLemmas.{AreFilled, filled}
use Rattle.types.proofs.FormInstances.{not_same, universal, definite}
use Rattle.types.proofs.LeafInstances.{boolean, integer, true_FF, small, truth, number}
use Rattle.types.proofs.TypeInstances.{a, b, plain_set, well_formed_boolean, well_formed_integer}
use Rattle.types.proofs.ApartInstances.{contents_of}
use Rattle.types.proofs.ItemInstances.{five}
use Rattle.types.proofs.SetInstances.{truth_octets}

-- both components of SET { a INTEGER, b BOOLEAN } stand, each as one encoding
nested : (rule : Rule) (shape : Shape) (v : Val) (octets : List ℕ) → IsWellFormed shape → IsEncoding rule shape v octets → IsOneNested octets
nested rule shape v octets well h = encoding_is_nested shape v octets well.tags (encoding_by_ber rule shape v octets h)

record AreBoth (encodings : List (List ℕ)) : Type 0 where
  nested_each : AllByRecursion IsOneNested encodings
  two : length encodings ≡ 2

both_stand : (rule : Rule) (slots : Slots) (encodings : List (Option (List ℕ))) → AreFilled rule (component a integer required (component b boolean required no_component)) slots encodings → AreBoth (standing encodings)
both_stand rule slots encodings (AreFilled.left_out n t r m h) = absurd m
both_stand rule slots encodings (AreFilled.stands n t r v x f c (AreFilled.left_out n' t' r' m' h)) = absurd m'
both_stand rule slots encodings (AreFilled.stands n t r v x f c (AreFilled.stands n' t' r' w y g d AreFilled.no_more)) =
    record { nested_each = (nested rule integer v x well_formed_integer f, (nested rule boolean w y well_formed_boolean g, tt)); two = refl }

-- so contents of one encoding, or of three, are those of no value
of_parts : (rule : Rule) (v : Val) (parts : List (List ℕ)) (octets : List ℕ) → AllByRecursion IsOneNested parts → (length parts ≡ 2 → ⊥) → IsDefinite ber (universal 17) true (concat parts) octets → IsEncoding rule plain_set v octets → ⊥
of_parts rule v parts octets each count f h =
    let both = both_stand rule h.slots h.encodings (filled rule (component a integer required (component b boolean required no_component)) h.slots h.encodings h.each) in
    let contents : concat h.order ≡ concat parts = contents_of rule (universal 17) (concat h.order) (concat parts) octets h.whole f in
    let same : h.order ≡ parts = parts_unique IsOneNested IsOneNested one_nested_unique one_nested_above one_nested_above h.order parts [] []
    (all_permutation IsOneNested (standing h.encodings) h.order h.permutes both.nested_each) each tt tt (ap (λ x. x ++ []) contents) in
    count (ap length (sym same) ∙ (length_permutation (standing h.encodings) h.order h.permutes ∙ both.two))

five_nested : IsOneNested five
five_nested = nested ber integer (number (pos 5)) five well_formed_integer (small ber 5 (omega arith) refl)

truth_nested : IsOneNested truth_octets
truth_nested = nested ber boolean (truth true) truth_octets well_formed_boolean (true_FF ber)

-- 31 03 02 01 05 and 31 09 01 01 FF 02 01 05 02 01 05
missing : (rule : Rule) (v : Val) → IsEncoding rule plain_set v (0x31 ∷ 0x03 ∷ five) → ⊥
missing rule v h = of_parts rule v (five ∷ []) (0x31 ∷ 0x03 ∷ five) (five_nested, tt) (λ same. not_same 1 2 (omega arith) same) (definite ber Universal 17 true five (omega arith) (omega arith)) h

doubled : (rule : Rule) (v : Val) → IsEncoding rule plain_set v (0x31 ∷ 0x09 ∷ (truth_octets ++ (five ++ five))) → ⊥
doubled rule v h =
    of_parts rule v (truth_octets ∷ five ∷ five ∷ []) (0x31 ∷ 0x09 ∷ (truth_octets ++ (five ++ five))) (truth_nested, (five_nested, (five_nested, tt))) (λ same. not_same 2 3 (omega arith) (sym same))
    (definite ber Universal 17 true (truth_octets ++ (five ++ five)) (omega arith) (omega arith)) h
