-- Parts of a buffer: what spans mean, and how parts are put in order.
use Rattle.std.specs.Prelude.{ℕ, zero, suc, ◌+◌, ◌-◌, ◌*◌, ◌^◌, List, [], ◌∷◌, take, drop}
use Rattle.std.specs.List.{AllPairs}
use Rattle.octets.specs.declared.tag.Tag.{Tag}
use Rattle.octets.specs.Tag.{ComesBefore}
use Rattle.canon.specs.declared.spans.Span.{Span}

abbrev pub part_of : List ℕ → Span → List ℕ
part_of buffer span = take (span.end - span.start) (drop span.start buffer)

-- no tag comes before an earlier one
abbrev pub RisesByTag : List Tag → Type 0
RisesByTag tags = AllPairs (λ a b. ¬ ComesBefore b a) tags

-- the number that so many first octets spell, the most significant first, with zeros for those that are not there
abbrev pub key_of : ℕ → List ℕ → ℕ
key_of zero octets = 0
key_of (suc count) [] = 0
key_of (suc count) (octet ∷ octets) = octet * 256 ^ count + key_of count octets
