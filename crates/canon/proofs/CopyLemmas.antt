-- Lemmas on copies of bits.
use Rattle.std.proofs.Common.{◌≡◌, ◌∙◌, ◌++◌, ℕ, Bool, false, List, length, replicate, sym, ap, arith, length-append}
use Rattle.std.proofs.lemmas.List.{length-replicate}
use Rattle.octets.specs.Rule.{der}
use Rattle.primitives.specs.Bits.{CanBeUnused, IsFrontOf, IsPadded}
use Rattle.primitives.proofs.BitsLemmas.{CanBeUnused-from, IsBits-from_padded}
use Rattle.types.proofs.CerLemmas.{same_fronts}

pub can_be_unused : (bits : List Bool) (octets : List ℕ) (unused : ℕ) → IsPadded bits octets unused → CanBeUnused unused octets
can_be_unused bits octets unused h = CanBeUnused-from der bits unused octets (IsBits-from_padded der bits octets unused h)

-- the octets and the count of unused bits give the bits again
pub bits_copied : (bits copy : List Bool) (octets : List ℕ) (unused : ℕ) → IsPadded bits octets unused → IsFrontOf copy unused octets → copy ≡ bits
bits_copied bits copy octets unused h g =
    let whole : copy ++ g.tail ≡ bits ++ replicate unused false = sym g.bits_are ∙ h.bits_are in
    let size : length copy ≡ length bits = omega (arith, ap length whole, length-append copy g.tail, length-append bits (replicate unused false), length-replicate unused false, g.tail_is) in
    (same_fronts copy bits g.tail (replicate unused false) size whole).0
