-- Lemmas on what the whole reader takes.
use Rattle.std.proofs.Common.{◌≡◌, ℕ, ◌≤◌, List, length, take, drop, sym, ◌∙◌, ap, arith}
use Rattle.std.proofs.lemmas.List.{length-take-le}
use Rattle.octets.specs.Front.{HasFront}
use Rattle.octets.specs.Rule.{Rule, ber, IsCanonical}
use Rattle.octets.proofs.FrontLemmas.{whole_front}
use Rattle.types.specs.declared.value.Value.{Value}
use Rattle.types.specs.Encoding.{IsAccepted, IsSomeAccepted}
use Rattle.types.specs.Same.{IsSame}
use Rattle.types.specs.Shape.{Shape, Val}
use Rattle.types.specs.View.{value_view}
use Rattle.types.specs.WellFormed.{IsWellFormed}
use Rattle.types.proofs.BerLemmas.{encoding_by_ber}
use Rattle.types.proofs.DepthLemmas.{canonical_nested}
use Rattle.types.proofs.EncodingLemmas.{encoding_unique}
use Rattle.encoding_parts.specs.Parts.{IsGoodType}
use Rattle.strict.specs.Reading.{IsRead, HasPart}

pub good_of : (shape : Shape) → IsWellFormed shape → IsGoodType shape
good_of shape well = record { within = well.limits.each; tags = well.tags; defaults = well.defaults }

-- what a canonical rule accepts, BER accepts
pub as_ber : (rule : Rule) (shape : Shape) (v : Val) (octets : List ℕ) → IsWellFormed shape → IsCanonical rule → IsAccepted rule shape v octets → IsAccepted ber shape v octets
as_ber rule shape v octets well canonical h = record { encoding = encoding_by_ber rule shape v octets h.encoding; depth = h.depth; size = h.size }

-- an accepted front is a part that there is room for
pub part_of_front : (rule : Rule) (shape : Shape) (octets : List ℕ) → HasFront (IsSomeAccepted rule shape) octets → HasPart rule shape 1_048_576 octets
part_of_front rule shape octets f = record { value = f.2.0; part = take f.0 octets; rest = drop f.0 octets; encoding = f.2.1.encoding; fits = f.2.1.size; parts = whole_front f.0 octets }

-- what was read is accepted: a canonical encoding of a well-formed type nests no deeper than is allowed
pub accepted : (rule : Rule) (shape : Shape) (v : Value) (octets : List ℕ) (used : ℕ) → IsWellFormed shape → IsCanonical rule → IsRead rule shape 1_048_576 octets v used → (used ≤ length octets) × IsAccepted rule shape (value_view v) (take used octets)
accepted rule shape v octets used well canonical read = (
  read.0,
  record {
    encoding = read.2;
    depth = canonical_nested rule shape (value_view v) (take used octets) 63 canonical well.tags (omega (arith, well.limits.levels)) read.2;
    size = omega (arith, read.1, length-take-le used octets read.0);
  },
)

-- and nothing else is
pub only_that : (rule : Rule) (shape : Shape) (v : Value) (w : Val) (octets : List ℕ) (used n : ℕ) → IsWellFormed shape → IsRead rule shape 1_048_576 octets v used → n ≤ length octets → IsAccepted rule shape w (take n octets) → (n ≡ used) × IsSame shape (value_view v) w
only_that rule shape v w octets used n well read there h =
    let same = encoding_unique shape (value_view v) w (take used octets) (take n octets) (drop used octets) (drop n octets) well (encoding_by_ber rule shape (value_view v) (take used octets) read.2) (encoding_by_ber rule shape w (take n octets) h.encoding) (sym (whole_front used octets) ∙ whole_front n octets) in
    (sym (length-take-le n octets there) ∙ (ap length (sym same.octets) ∙ length-take-le used octets read.0), same.values)
