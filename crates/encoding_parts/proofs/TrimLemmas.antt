-- Lemmas on bits without the bits 0 at their end.
use Rattle.std.proofs.Common.{◌≡◌, ◌≤◌, inl, inr, ℕ, suc, Bool, true, false, List, [], ◌∷◌, ◌++◌, replicate, length, refl, sym, ap, arith}
use Rattle.primitives.specs.Bits.{IsTrimmed}
use Rattle.types.proofs.TrimLemmas.{trimmed_unique}
use Rattle.encoding_parts.specs.Joined.{behind_zero, trimmed_bits}

-- these bits are trimmed, and some with zeros behind them
abbrev AreBefore : List Bool → List Bool → Type 0
AreBefore bits whole = IsTrimmed bits × ((zeros : ℕ) × (whole ≡ bits ++ replicate zeros false))

behind_one : (bits whole : List Bool) → AreBefore bits whole → AreBefore (true ∷ bits) (true ∷ whole)
behind_one bits whole (inl none, (zeros, is)) = (inr ([], ap (λ b. true ∷ b) none), (zeros, ap (λ b. true ∷ b) is))
behind_one bits whole (inr (front, last), (zeros, is)) = (inr (true ∷ front, ap (λ b. true ∷ b) last), (zeros, ap (λ b. true ∷ b) is))

behind_a_zero : (bits whole : List Bool) → AreBefore bits whole → AreBefore (behind_zero bits) (false ∷ whole)
behind_a_zero [] whole (trimmed, (zeros, is)) = (inl refl, (suc zeros, ap (λ b. false ∷ b) is))
behind_a_zero (bit ∷ bits) whole (inl none, (zeros, is)) = cc
behind_a_zero (bit ∷ bits) whole (inr (front, last), (zeros, is)) = (inr (false ∷ front, ap (λ b. false ∷ b) last), (zeros, ap (λ b. false ∷ b) is))

pub trimmed_is : (bits : List Bool) → IsTrimmed (trimmed_bits bits) × ((zeros : ℕ) × (bits ≡ trimmed_bits bits ++ replicate zeros false))
trimmed_is [] = (inl refl, (0, refl))
trimmed_is (true ∷ bits) = behind_one (trimmed_bits bits) bits (trimmed_is bits)
trimmed_is (false ∷ bits) = behind_a_zero (trimmed_bits bits) bits (trimmed_is bits)

-- there is one way to trim bits
pub trimmed_bits_of : (bits : List Bool) (zeros : ℕ) → IsTrimmed bits → trimmed_bits (bits ++ replicate zeros false) ≡ bits
trimmed_bits_of bits zeros trimmed =
    let h = trimmed_is (bits ++ replicate zeros false) in
    trimmed_unique (trimmed_bits (bits ++ replicate zeros false)) bits h.1.0 zeros h.0 trimmed (sym h.1.1)

behind_zero_long : (bits : List Bool) → length (behind_zero bits) ≤ suc (length bits)
behind_zero_long [] = omega arith
behind_zero_long (bit ∷ bits) = omega arith

pub trimmed_bits_long : (bits : List Bool) → length (trimmed_bits bits) ≤ length bits
trimmed_bits_long [] = omega arith
trimmed_bits_long (true ∷ bits) = omega (arith, trimmed_bits_long bits)
trimmed_bits_long (false ∷ bits) = omega (arith, behind_zero_long (trimmed_bits bits), trimmed_bits_long bits)
