-- Calls over streams of BOOLEAN, and what they do not do.
use Rattle.std.proofs.Common.{◌≡◌, ℕ, List, [], ◌∷◌, ◌++◌, length, take, drop, refl, sym, ap, arith, Bool, true, false, length-take-le}
use Rattle.octets.specs.declared.tag.Class.TheVariants.{Universal}
use Rattle.octets.specs.Front.{HasFront}
use Rattle.octets.specs.Rule.{Rule, ber, der}
use Rattle.octets.proofs.FrontLemmas.{front_of_more}
use Rattle.types.specs.declared.refusal.Refusal.TheVariants.{Truncated, NotCanonical, StreamTooLong, OutputTooLong, SinkFault}
use Rattle.types.specs.Encoding.{IsEncoding, IsAccepted, IsSomeAccepted}
use Rattle.types.proofs.DepthLemmas.{nested_one}
use Rattle.types.proofs.EncodingLemmas.{encoding_unique}
use Rattle.types.proofs.FormInstances.{universal, usable_universal, definite}
use Rattle.types.proofs.LeafInstances.{boolean, truth, true_FF, true_any, false_00}
use Rattle.types.proofs.TypeInstances.{well_formed_boolean}
use Rattle.engine.specs.Stream.{IsConverted, IsStopped}
use Rattle.engine.proofs.PassingLemmas.{other, sink_failed}
use Rattle.engine.proofs.CallLemmas.{writes_no_part}

accepted : (rule : Rule) (value : Bool) (octet : ℕ) → IsEncoding rule boolean (truth value) (0x01 ∷ 0x01 ∷ octet ∷ []) → IsAccepted rule boolean (truth value) (0x01 ∷ 0x01 ∷ octet ∷ [])
accepted rule value octet h = record {
  encoding = h;
  depth = nested_one ber 64 (universal 1) (octet ∷ []) (0x01 ∷ 0x01 ∷ octet ∷ []) (usable_universal 1 (omega arith)) (definite ber Universal 1 false (octet ∷ []) (omega arith) (omega arith));
  size = omega arith;
}

true_by_2A : IsAccepted ber boolean (truth true) (0x01 ∷ 0x01 ∷ 0x2A ∷ [])
true_by_2A = accepted ber true 0x2A (true_any 0x2A (omega arith) (omega arith))

true_by_FF : (rule : Rule) → IsAccepted rule boolean (truth true) (0x01 ∷ 0x01 ∷ 0xFF ∷ [])
true_by_FF rule = accepted rule true 0xFF (true_FF rule)

false_by_00 : (rule : Rule) → IsAccepted rule boolean (truth false) (0x01 ∷ 0x01 ∷ 0x00 ∷ [])
false_by_00 rule = accepted rule false 0x00 (false_00 rule)

-- 01 01 2A 01 01 00 is converted as 01 01 FF 01 01 00, two values
true_false : IsConverted ber der boolean 2 (0x01 ∷ 0x01 ∷ 0x2A ∷ 0x01 ∷ 0x01 ∷ 0x00 ∷ []) (0x01 ∷ 0x01 ∷ 0xFF ∷ 0x01 ∷ 0x01 ∷ 0x00 ∷ [])
true_false = record {
  values = truth true ∷ truth false ∷ [];
  counted = refl;
  read = record { encodings = (0x01 ∷ 0x01 ∷ 0x2A ∷ []) ∷ (0x01 ∷ 0x01 ∷ 0x00 ∷ []) ∷ []; each = (true_by_2A, (false_by_00 ber, tt)); whole = refl };
  put = record { encodings = (0x01 ∷ 0x01 ∷ 0xFF ∷ []) ∷ (0x01 ∷ 0x01 ∷ 0x00 ∷ []) ∷ []; each = (true_by_FF der, (false_by_00 der, tt)); whole = refl };
  again = record { encodings = (0x01 ∷ 0x01 ∷ 0xFF ∷ []) ∷ (0x01 ∷ 0x01 ∷ 0x00 ∷ []) ∷ []; each = (true_by_FF ber, (false_by_00 ber, tt)); whole = refl };
  size = omega arith;
}

-- no octets are converted as none, no value
no_value : IsConverted ber der boolean 0 [] []
no_value = record {
  values = [];
  counted = refl;
  read = record { encodings = []; each = tt; whole = refl };
  put = record { encodings = []; each = tt; whole = refl };
  again = record { encodings = []; each = tt; whole = refl };
  size = omega arith;
}

-- no front of 01 01 is an encoding
cut_short : HasFront (IsSomeAccepted ber boolean) (0x01 ∷ 0x01 ∷ []) → ⊥
cut_short h =
    let octets = 0x01 ∷ 0x01 ∷ [] in
    let same = encoding_unique boolean h.2.0 (truth true) (take h.0 octets) (0x01 ∷ 0x01 ∷ 0x2A ∷ []) (drop h.0 octets ++ 0x2A ∷ []) [] well_formed_boolean h.2.1.encoding true_by_2A.encoding (sym (front_of_more h.0 octets (0x2A ∷ []))) in
    let size : length (take h.0 octets) ≡ h.0 = length-take-le h.0 octets h.1 in
    absurd (omega (arith, size, ap length same.octets, h.1))

-- 01 01 2A 01 01 stops behind one value with Truncated, and 01 01 FF was written
one_and_a_part : IsStopped (IsAccepted der boolean) ber boolean 1 Truncated (0x01 ∷ 0x01 ∷ 0x2A ∷ 0x01 ∷ 0x01 ∷ []) (0x01 ∷ 0x01 ∷ 0xFF ∷ [])
one_and_a_part = record {
  values = truth true ∷ [];
  counted = refl;
  rest = 0x01 ∷ 0x01 ∷ [];
  part = [];
  read = record { front = 0x01 ∷ 0x01 ∷ 0x2A ∷ []; read = record { encodings = (0x01 ∷ 0x01 ∷ 0x2A ∷ []) ∷ []; each = (true_by_2A, tt); whole = refl }; whole = refl };
  put = record { front = 0x01 ∷ 0x01 ∷ 0xFF ∷ []; put = record { parts = (0x01 ∷ 0x01 ∷ 0xFF ∷ []) ∷ []; each = (true_by_FF der, tt); whole = refl }; whole = refl };
  refused = record {
    begun = λ _ h. absurd (omega (arith, ap length h));
    none = λ _. cut_short;
    never = λ h. absurd h;
    strict = λ h. absurd (other Truncated NotCanonical (λ n. omega (arith, n)) h);
    by_ber = λ h. absurd (other Truncated NotCanonical (λ n. omega (arith, n)) h);
    stream_limit = λ h. absurd (other Truncated StreamTooLong (λ n. omega (arith, n)) h);
  };
  unwritten = writes_no_part ber boolean (IsAccepted der boolean) Truncated (0x01 ∷ 0x01 ∷ []) (other Truncated OutputTooLong (λ n. omega (arith, n))) (other Truncated SinkFault (λ n. omega (arith, n)));
}

-- 01 01 2A of which 01 01 was written stops behind no value with SinkFault
a_part : IsStopped (IsAccepted der boolean) ber boolean 0 SinkFault (0x01 ∷ 0x01 ∷ 0x2A ∷ []) (0x01 ∷ 0x01 ∷ [])
a_part =
    let stops = sink_failed ber boolean (IsAccepted der boolean) (truth true) (0x01 ∷ 0x01 ∷ 0x2A ∷ []) [] (0x01 ∷ 0x01 ∷ 0x2A ∷ []) (0x01 ∷ 0x01 ∷ []) refl true_by_2A (0xFF ∷ [], (λ h. absurd (omega (arith, ap length h))), true_by_FF der) in
    record {
      values = [];
      counted = refl;
      rest = 0x01 ∷ 0x01 ∷ 0x2A ∷ [];
      part = 0x01 ∷ 0x01 ∷ [];
      read = record { front = []; read = record { encodings = []; each = tt; whole = refl }; whole = refl };
      put = record { front = []; put = record { parts = []; each = tt; whole = refl }; whole = refl };
      refused = stops.refused (0x01 ∷ 0x01 ∷ 0x2A ∷ []) [];
      unwritten = stops.unwritten [];
    }

-- no call stops with Truncated behind the whole of a stream of no values
not_truncated : (written : List ℕ) → IsStopped (IsAccepted der boolean) ber boolean 0 Truncated [] written → ⊥
not_truncated written h = h.refused.begun tt (no_rest h.read.front h.rest h.read.whole)
  where
    no_rest : (front rest : List ℕ) → [] ≡ front ++ rest → rest ≡ []
    no_rest [] rest e = sym e
    no_rest (o ∷ os) rest e = absurd (omega (arith, ap length e))
