-- Lemmas on accepted encodings: those within the limits.
use Rattle.std.proofs.Common.{◌≡◌, ◌≤◌, ℕ, List, length, take, drop, sym, ap, ◌∙◌, arith}
use Rattle.std.proofs.lemmas.List.{length-take-le}
use Rattle.octets.specs.declared.TheConstants.{MAX_ENCODING}
use Rattle.octets.specs.Front.{HasFront}
use Rattle.octets.specs.Rule.{ber}
use Rattle.octets.proofs.FrontLemmas.{whole_front}
use Rattle.types.specs.Shape.{Shape, Val}
use Rattle.types.specs.Encoding.{IsAccepted, IsSomeAccepted, most_nested}
use Rattle.types.specs.Same.{IsSame}
use Rattle.types.specs.WellFormed.{IsWellFormed}
use Rattle.types.proofs.EncodingLemmas.{encoding_unique}
use Rattle.encoding_parts.specs.Parts.{IsPartWithin}

-- two accepted encodings at the front are one, and so are their values
pub record IsOnly (shape : Shape) (v w : Val) (n used : ℕ) : Type 0 where
  pub used_is : n ≡ used
  pub same : IsSame shape v w

pub only_accepted : (shape : Shape) (v w : Val) (n used : ℕ) (octets : List ℕ) → IsWellFormed shape → used ≤ length octets → n ≤ length octets → IsAccepted ber shape v (take used octets) → IsAccepted ber shape w (take n octets) → IsOnly shape v w n used
only_accepted shape v w n used octets well there below f g =
    let same = encoding_unique shape v w (take used octets) (take n octets) (drop used octets) (drop n octets) well f.encoding g.encoding (sym (whole_front used octets) ∙ whole_front n octets) in
    let a : length (take used octets) ≡ used = length-take-le used octets there in
    let b : length (take n octets) ≡ n = length-take-le n octets below in
    record { used_is = omega (arith, a, b, ap length same.octets); same = same.values }

-- nothing holds the outermost encoding but the limits
pub within_of_accepted : (shape : Shape) (octets : List ℕ) → HasFront (IsSomeAccepted ber shape) octets → HasFront (IsPartWithin most_nested shape MAX_ENCODING 0) octets
within_of_accepted shape octets f =
    let part : IsPartWithin most_nested shape MAX_ENCODING 0 (take f.0 octets) =
    record { part = record { value = f.2.0; encoding = f.2.1.encoding; depth = f.2.1.depth }; fits = omega (arith, f.2.1.size) } in
    (f.0, f.1, part)
