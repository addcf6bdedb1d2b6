-- Lemmas on a component that stands, which is not its default.
use Rattle.std.proofs.Common.{◌≡◌, ℕ, ◌+◌, ◌-◌, ◌<◌, ◌≤◌, List, ◌++◌, Option, Some, None, length, take, drop, sym, ap, ◌∙◌, subst, arith}
use Rattle.std.proofs.lemmas.List.{drop-drop, length-drop, take_rest}
use Rattle.octets.specs.Rule.{Rule}
use Rattle.octets.proofs.FrontLemmas.{front_of_more}
use Rattle.types.specs.declared.value.Value.{Value}
use Rattle.types.specs.Shape.{Val, Requirement, required, optional, default, Shape}
use Rattle.types.specs.Conforms.{DiffersFromDefault}
use Rattle.types.specs.Encoding.{IsEncoding}
use Rattle.types.specs.View.{ComponentView, value_view}
use Rattle.types.specs.WellFormed.{IsGoodDefault, TakesDefault}
use Rattle.types.proofs.BerLemmas.{encoding_by_ber}
use Rattle.types.proofs.EncodingLemmas.{value_unique}
use Rattle.types.proofs.SameLemmas.{same_is_equal}
use Rattle.encoding_parts.specs.Parts.{IsGoodType, IsGoodComponent, IsSlotOf}
use Rattle.strict.specs.Reading.{IsRead, HasPart}
use Rattle.strict.specs.Components.{HasPresent, IsPresentRead}
use Rattle.strict.proofs.PartLemmas.{one_of, same_part, read_some}

pub part_of_present : (rule : Rule) (c : ComponentView) (room : ℕ) (octets : List ℕ) → HasPresent rule c room octets → HasPart rule c.type room octets
part_of_present rule c room octets h = record { value = h.value; part = h.part; rest = h.rest; encoding = h.encoding; fits = h.fits; parts = h.parts }

-- a default is not spelt out
default_differs : (type : Shape) (requirement : Requirement) (v w : Val) → IsGoodDefault type requirement → IsSlotOf requirement v None → DiffersFromDefault requirement w → (TakesDefault type → v ≡ w) → ⊥
default_differs type required v w good dropped differs same = let no : None ≡ Some v = dropped in cc
default_differs type optional v w good dropped differs same = let no : None ≡ Some v = dropped in cc
default_differs type (default other) v w good dropped differs same = differs (sym (same good.0) ∙ dropped)

-- so many octets are some, and no more than there are
pub present_some : (rule : Rule) (c : ComponentView) (room : ℕ) (octets : List ℕ) (slot : Option Value) (used : ℕ) → IsGoodType c.type → IsPresentRead rule c room octets slot used → (0 < used) × (used ≤ length octets)
present_some rule c room octets None used good read = absurd read
present_some rule c room octets (Some v) used good read = (read_some rule c.type room octets v used good read.0, read.0.0)

-- nor more than there may be
pub present_within : (rule : Rule) (c : ComponentView) (room : ℕ) (octets : List ℕ) (slot : Option Value) (used : ℕ) → IsPresentRead rule c room octets slot used → (used ≤ room) × (used ≤ length octets)
present_within rule c room octets None used read = absurd read
present_within rule c room octets (Some v) used read = (read.0.1, read.0.0)

-- what is left of the octets is no more than they
pub rest_within : (octets rest : List ℕ) → rest ≡ drop (length octets - length rest) octets → length rest ≤ length octets
rest_within octets rest is = omega (arith, ap length is, length-drop (length octets - length rest) octets)

-- and less is left behind some of it
pub rest_size : (used : ℕ) (octets rest : List ℕ) → used ≤ length rest → rest ≡ drop (length octets - length rest) octets → (length octets - length rest) + used ≡ length octets - length (take (length rest - used) (drop used rest))
rest_size used octets rest below is = omega (arith, below, rest_within octets rest is, ap length (take_rest rest used), length-drop used rest)

pub rest_behind : (used : ℕ) (octets rest : List ℕ) → used ≤ length rest → rest ≡ drop (length octets - length rest) octets
    → take (length rest - used) (drop used rest) ≡ drop (length octets - length (take (length rest - used) (drop used rest))) octets
rest_behind used octets rest below is =
    take_rest rest used ∙ (ap (λ o. drop used o) is ∙ (drop-drop used (length octets - length rest) octets ∙ ap (λ k. drop k octets) (rest_size used octets rest below is)))

-- where what was read is the default, no other value stands there
pub none_spelt_out : (rule : Rule) (c : ComponentView) (room : ℕ) (octets more : List ℕ) (v : Value) (used : ℕ) → IsGoodComponent c → IsRead rule c.type room octets v used → IsSlotOf c.requirement (value_view v) None → HasPresent rule c room (octets ++ more) → ⊥
none_spelt_out rule c room octets more v used good read dropped h =
    let front = take used octets in
    let view = value_view v in
    let same = same_part h.part front h.rest (drop used octets ++ more) (one_of rule c.type h.value h.part good.type h.encoding) (one_of rule c.type view front good.type read.2) (sym h.parts ∙ front_of_more used octets more) in
    let other : IsEncoding rule c.type h.value front = subst (IsEncoding rule c.type h.value) same.0 h.encoding in
    default_differs c.type c.requirement view h.value good.default dropped h.differs
    (λ takes. same_is_equal c.type takes view h.value (value_unique c.type view h.value front (record { tags = good.type.tags; defaults = good.type.defaults }) (encoding_by_ber rule c.type view front read.2) (encoding_by_ber rule c.type h.value front other)))
