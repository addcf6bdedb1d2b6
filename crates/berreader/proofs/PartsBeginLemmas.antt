-- Lemmas on what one part begins with, and that none begins another.
use Rattle.std.proofs.Common.{◌≡◌, ℕ, List, ◌++◌, subst}
use Rattle.std.proofs.lemmas.List.{append_cancel_left}
use Rattle.octets.specs.Rule.{ber}
use Rattle.types.specs.Shape.{Val, Shape}
use Rattle.types.specs.FirstTags.{first_tags}
use Rattle.types.specs.Order.{BeginsWithOneOf}
use Rattle.types.proofs.NestingLemmas.{IsAboveZero, nested_above, nested_unique}
use Rattle.types.proofs.BeginningLemmas.{encoding_begins}
use Rattle.encoding_parts.specs.Parts.{IsPart, IsPartOf}

-- a part is told from end-of-contents octets
pub part_above : (levels : ℕ) (type : Shape) (octets : List ℕ) → IsPart levels type octets → IsAboveZero octets
part_above levels type octets h = nested_above levels octets h.depth

pub part_begins : (levels : ℕ) (type : Shape) (octets : List ℕ) → IsPart levels type octets → BeginsWithOneOf (first_tags type) octets
part_begins levels type octets h = encoding_begins ber type h.value octets h.encoding

-- two parts at the front of one list are the same, of whatever types
pub record IsSamePart (a b r s : List ℕ) : Type 0 where
  pub octets : a ≡ b
  pub rest : r ≡ s

pub parts_apart : (m n : ℕ) (T U : Shape) (v : Val) (a b r s : List ℕ) → IsPart m T a → IsPartOf n U v b → a ++ r ≡ b ++ s → IsSamePart a b r s
parts_apart m n T U v a b r s h g whole =
    let same : a ≡ b = nested_unique m n a b r s h.depth g.depth whole in
    record { octets = same; rest = append_cancel_left b r s (subst (λ x. x ++ r ≡ b ++ s) same whole) }
