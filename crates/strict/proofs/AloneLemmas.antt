-- Lemmas on the one encoding inside an explicit tag.
use Rattle.std.proofs.Common.{◌≡◌, ℕ, ◌+◌, ◌-◌, List, [], ◌++◌, Bool, length, take, drop, sym, ◌∙◌, ap, subst, append-nil}
use Rattle.std.proofs.lemmas.List.{length-take-le}
use Rattle.octets.specs.declared.tag.Tag.{Tag}
use Rattle.octets.specs.Rule.{Rule}
use Rattle.octets.proofs.FrontLemmas.{front_of_more}
use Rattle.types.specs.declared.value.Value.{Value}
use Rattle.types.specs.Shape.{Shape}
use Rattle.types.specs.View.{value_view}
use Rattle.encoding_parts.specs.Parts.{IsGoodType}
use Rattle.strict.specs.declared.head.Inside.{Inside}
use Rattle.strict.specs.Head.{HasConstructed, IsOpened, Fills, mark, EndsHere}
use Rattle.strict.specs.Reading.{IsRead, HasPart, HasAlone}
use Rattle.strict.proofs.InsideLemmas.{closed}
use Rattle.strict.proofs.PartLemmas.{one_of, same_part, ends_here, fills_after}

-- under an explicit tag the octets begin with a constructed encoding
abbrev pub constructed_under_tag : (rule : Rule) (tag : Tag) (type : Shape) (room : ℕ) (octets : List ℕ) → HasPart rule (Shape.explicit tag type) room octets → HasConstructed rule tag room octets
constructed_under_tag rule tag type room octets h = record { contents = h.encoding.inner; part = h.part; rest = h.rest; whole = h.encoding.whole; fits = h.fits; parts = h.parts }

-- what can stand inside it
pub alone_under_tag : (rule : Rule) (tag : Tag) (type : Shape) (room : ℕ) (octets more : List ℕ) (inside : Inside) → IsOpened rule tag room octets inside → HasPart rule (Shape.explicit tag type) room (octets ++ more)
    → HasAlone rule type inside.definite inside.room (drop inside.start octets ++ more)
alone_under_tag rule tag type room octets more inside o h =
    let only = o.only more (constructed_under_tag rule tag type room (octets ++ more) h) in
    record { value = h.value; part = h.encoding.inner; rest = h.rest; encoding = h.encoding.encodes; fills = only.0; parts = only.1 }

pub part_alone : (rule : Rule) (type : Shape) (definite : Bool) (room : ℕ) (octets : List ℕ) → HasAlone rule type definite room octets → HasPart rule type room octets
part_alone rule type definite room octets h = record { value = h.value; part = h.part; rest = mark definite ++ h.rest; encoding = h.encoding; fits = h.fills.within; parts = h.parts }

-- behind it the contents octets end
pub ends_alone : (rule : Rule) (type : Shape) (definite : Bool) (room : ℕ) (octets more : List ℕ) (v : Value) (used : ℕ) → IsGoodType type → IsRead rule type room octets v used → HasAlone rule type definite room (octets ++ more)
    → EndsHere definite (room - used) (drop used octets ++ more)
ends_alone rule type definite room octets more v used good read h =
    let front = take used octets in
    let split = front_of_more used octets more in
    let same = same_part front h.part (drop used octets ++ more) (mark definite ++ h.rest) (one_of rule type (value_view v) front good read.2) (one_of rule type h.value h.part good h.encoding) (sym split ∙ h.parts) in
    let size : used ≡ length h.part = sym (length-take-le used octets read.0) ∙ ap length same.0 in
    let fills : Fills definite room (h.part ++ []) = subst (Fills definite room) (sym (append-nil h.part)) h.fills in
    subst (EndsHere definite (room - used)) (sym same.1) (ends_here definite (room - used) h.rest (fills_after definite room used h.part [] size fills))

-- around what was read inside, an encoding of the type under the tag
pub explicit_read : (rule : Rule) (tag : Tag) (type : Shape) (room : ℕ) (octets : List ℕ) (inside : Inside) (v : Value) (used whole : ℕ) → IsOpened rule tag room octets inside → IsRead rule type inside.room (drop inside.start octets) v used
    → EndsHere inside.definite (inside.room - used) (drop used (drop inside.start octets)) → whole ≡ inside.start + used + length (mark inside.definite) → IsRead rule (Shape.explicit tag type) room octets v whole
explicit_read rule tag type room octets inside v used whole o read ends is =
    let k = closed rule tag room octets inside used o read.0 read.1 ends in
    subst (λ m. IsRead rule (Shape.explicit tag type) room octets v m) (sym is) (k.there, k.fits, record { inner = take used (drop inside.start octets); encodes = read.2; whole = k.made })
