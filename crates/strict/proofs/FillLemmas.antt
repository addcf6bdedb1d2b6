-- Lemmas on values, and the contents octets that they are of.
use Rattle.std.proofs.Common.{◌≡◌, ◌+◌, ◌≤◌, ℕ, List, sym, subst, arith, slice_range}
use Rattle.octets.specs.declared.canonical.Canonical.{Canonical}
use Rattle.octets.specs.declared.tag.Tag.{Tag}
use Rattle.octets.specs.Rule.{der, rule_of}
use Rattle.types.specs.declared.value.Value.{Value}
use Rattle.types.specs.Shape.{Shape}
use Rattle.types.specs.Leaf.{tag_of, IsLeaf}
use Rattle.types.specs.View.{value_view}
use Rattle.encoding_parts.specs.Contents.{HoldsValue}
use Rattle.encoding_parts.specs.Head.{IsShortPrimitive}
use Rattle.strict.specs.Leaf.{IsPlace}
use Rattle.strict.specs.Reading.{IsRead}
use Rattle.strict.proofs.PlaceLemmas.{leaf_read}
use Rattle.strict.proofs.ShortLemmas.{short_place, short_whole}

-- what was made of the contents octets behind two others was read
pub filled_read : (rule : Canonical) (type : Shape) (room stop : ℕ) (octets : List ℕ) (value : Value) → IsLeaf type → IsPlace (tag_of type) room octets 2 stop → stop ≤ 129 → HoldsValue der type (value_view value) (slice_range octets 2 stop) → IsRead (rule_of rule) type room octets value stop
filled_read rule type room stop octets value leaf place short h = leaf_read rule type room 2 stop octets value leaf place (λ size is. short_whole rule type size (omega (arith, is, short))) h.0 h.1

-- so was what was made of those of a short encoding, under whatever rule
pub short_read : (rule : Canonical) (type : Shape) (tag : Tag) (room : ℕ) (octets : List ℕ) (value : Value) (stop : ℕ) → IsLeaf type → tag_of type ≡ tag → IsShortPrimitive tag room octets stop → HoldsValue der type (value_view value) (slice_range octets 2 stop) → IsRead (rule_of rule) type room octets value stop
short_read rule type tag room octets value stop leaf same h held =
    let own : IsPlace tag room octets 2 (2 + h.contents) = short_place tag room h.contents octets (omega (arith, h.there, h.counted)) h.tagged h.low h.sized (omega (arith, h.fits, h.counted)) (omega (arith, h.there, h.counted)) in
    let place : IsPlace (tag_of type) room octets 2 stop = subst (λ n. IsPlace (tag_of type) room octets 2 n) (sym h.counted) (subst (λ t. IsPlace t room octets 2 (2 + h.contents)) (sym same) own) in
    filled_read rule type room stop octets value leaf place (omega (arith, h.counted, h.low)) held
