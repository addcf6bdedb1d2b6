-- Lemmas on CER and DER: encodings are equal exactly if their values are the same.
use Rattle.std.proofs.Common.{◌≡◌, ℕ, List, [], ◌++◌, ap}
use Rattle.octets.specs.Rule.{Rule, IsCanonical}
use Rattle.types.specs.Shape.{Shape, Val}
use Rattle.types.specs.WellFormed.{IsWellFormed}
use Rattle.types.specs.Same.{IsSame}
use Rattle.types.specs.Encoding.{IsEncoding}
use Rattle.types.specs.Laws.{EqualExactlyIfSame}
use Rattle.types.proofs.BerLemmas.{encoding_by_ber}
use Rattle.types.proofs.EncodingLemmas.{encoding_unique}
use Rattle.types.proofs.SameLemmas.{same_encodings}
use Rattle.types.proofs.OneEncodingLemmas.{one_canonical}

-- equal encodings have the same value, whatever the rule
pub same_if_equal : (rule : Rule) (shape : Shape) (v w : Val) (a b : List ℕ) → IsWellFormed shape → IsEncoding rule shape v a → IsEncoding rule shape w b → a ≡ b → IsSame shape v w
same_if_equal rule shape v w a b well h g same =
    (encoding_unique shape v w a b [] [] well (encoding_by_ber rule shape v a h) (encoding_by_ber rule shape w b g) (ap (λ x. x ++ []) same)).values

pub equal_if_same : (rule : Rule) (shape : Shape) (v w : Val) (a b : List ℕ) → IsWellFormed shape → IsCanonical rule → IsEncoding rule shape v a → IsEncoding rule shape w b → IsSame shape v w → a ≡ b
equal_if_same rule shape v w a b well canonical h g same = one_canonical rule shape w a b well canonical ((same_encodings rule shape v w a well same).0 h) g

pub equal_exactly_if_same : EqualExactlyIfSame
equal_exactly_if_same rule shape v w a b well canonical h g = (λ same. same_if_equal rule shape v w a b well h g same, λ same. equal_if_same rule shape v w a b well canonical h g same)
