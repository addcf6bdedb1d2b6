-- Lemmas on the contents octets of a BOOLEAN.
use Rattle.std.proofs.Common.{◌≡◌, ◌≢◌, ℕ, true, false, List, [], ◌∷◌, refl, sym, ◌∙◌, arith}
use Rattle.octets.specs.Rule.{Rule, ber, cer, der, IsCanonical}
use Rattle.primitives.specs.Boolean.{IsBoolean}
use Rattle.primitives.specs.Laws.{OneBooleanValue, CanonicalBooleanIsBer, OneCanonicalBoolean}

pub canonical_boolean_is_ber : CanonicalBooleanIsBer
canonical_boolean_is_ber ber value c h = h
canonical_boolean_is_ber cer false c h = h
canonical_boolean_is_ber der false c h = h
canonical_boolean_is_ber cer true c h = record { octet = 255; below_256 = omega arith; not_zero = omega arith; is = h }
canonical_boolean_is_ber der true c h = record { octet = 255; below_256 = omega arith; not_zero = omega arith; is = h }

not_both : (octet : ℕ) (c : List ℕ) → octet ≢ 0 → c ≡ octet ∷ [] → c ≡ 0 ∷ [] → ⊥
not_both octet c some h k = let same : octet ∷ [] ≡ 0 ∷ [] = sym h ∙ k in let zero_octet : octet ≡ 0 = cc in some zero_octet

true_not_false : (r s : Rule) (c : List ℕ) → IsBoolean r true c → IsBoolean s false c → ⊥
true_not_false r s c h k = let t = canonical_boolean_is_ber r true c h in not_both t.octet c t.not_zero t.is k

pub one_boolean_value : OneBooleanValue
one_boolean_value r s true true c h k = refl
one_boolean_value r s false false c h k = refl
one_boolean_value r s true false c h k = absurd (true_not_false r s c h k)
one_boolean_value r s false true c h k = absurd (true_not_false s r c k h)

canonical_true : (rule : Rule) (c : List ℕ) → IsCanonical rule → IsBoolean rule true c → c ≡ 255 ∷ []
canonical_true ber c canonical h = absurd (canonical refl)
canonical_true cer c canonical h = h
canonical_true der c canonical h = h

pub one_canonical_boolean : OneCanonicalBoolean
one_canonical_boolean r s false c d f g h k = h ∙ sym k
one_canonical_boolean r s true c d f g h k = canonical_true r c f h ∙ sym (canonical_true s d g k)
