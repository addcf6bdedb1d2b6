-- Lemmas on the primitive encodings of the canonical rules.
use Rattle.std.proofs.Common.{ℕ, List, zero, suc, inl}
use Rattle.octets.specs.declared.tag.Tag.{Tag}
use Rattle.octets.specs.Rule.{Rule, ber, cer, der}
use Rattle.types.specs.Depth.{IsNested, IsSomePrimitive}
use Rattle.types.specs.Form.{IsPrimitive}
use Rattle.types.specs.FirstTags.{IsUsable}

-- BER takes the primitive encodings of every rule
pub primitive_by_ber : (rule : Rule) (tag : Tag) (contents octets : List ℕ) → IsPrimitive rule tag contents octets → IsPrimitive ber tag contents octets
primitive_by_ber ber tag contents octets h = h
primitive_by_ber cer tag contents octets h = record { identifier = h.identifier; size = h.size; tagged = h.tagged; sized = h.sized.form; joined = h.joined }
primitive_by_ber der tag contents octets h = record { identifier = h.identifier; size = h.size; tagged = h.tagged; sized = h.sized.form; joined = h.joined }

-- CER and DER have the same primitive encodings
pub primitive_by_der : (tag : Tag) (contents octets : List ℕ) → IsPrimitive cer tag contents octets → IsPrimitive der tag contents octets
primitive_by_der tag contents octets h = record { identifier = h.identifier; size = h.size; tagged = h.tagged; sized = h.sized; joined = h.joined }

pub primitive_by_cer : (tag : Tag) (contents octets : List ℕ) → IsPrimitive der tag contents octets → IsPrimitive cer tag contents octets
primitive_by_cer tag contents octets h = record { identifier = h.identifier; size = h.size; tagged = h.tagged; sized = h.sized; joined = h.joined }

-- a primitive encoding nests nothing
pub nested_primitive : (n : ℕ) (octets : List ℕ) → IsSomePrimitive octets → IsNested n octets
unfolding IsNested
nested_primitive zero octets h = h
nested_primitive (suc n) octets h = inl h

pub nested_canonical : (n : ℕ) (tag : Tag) (contents octets : List ℕ) → IsUsable tag → IsPrimitive cer tag contents octets → IsNested n octets
nested_canonical n tag contents octets usable h = nested_primitive n octets record { tag = tag; usable = usable; contents = contents; whole = primitive_by_ber cer tag contents octets h }
