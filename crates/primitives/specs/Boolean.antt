-- Contents octets of a BOOLEAN (X.690 8.2 and 11.1).
use Rattle.std.specs.Prelude.{◌≡◌, ◌≢◌, ℕ, ◌<◌, Bool, true, false, List, [], ◌∷◌}
use Rattle.octets.specs.Rule.{Rule, ber, cer, der}

-- one octet other than 0
pub record IsNonZeroOctet (contents : List ℕ) : Type 0 where
  pub octet : ℕ
  pub below_256 : octet < 256
  pub not_zero : octet ≢ 0
  pub is : contents ≡ octet ∷ []

-- 8.2.2: FALSE is the octet 0. TRUE is any other octet under BER, and FF under CER and DER (11.1)
abbrev pub IsBoolean : Rule → Bool → List ℕ → Type 0
IsBoolean rule false contents = contents ≡ 0 ∷ []
IsBoolean ber true contents = IsNonZeroOctet contents
IsBoolean cer true contents = contents ≡ 255 ∷ []
IsBoolean der true contents = contents ≡ 255 ∷ []

-- these are its contents octets under CER and DER both
abbrev pub IsCanonicalBoolean : Bool → List ℕ → Type 0
IsCanonicalBoolean value contents = IsBoolean cer value contents × IsBoolean der value contents
