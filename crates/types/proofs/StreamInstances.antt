-- Streams of encodings, and octets that are none.
use Rattle.std.proofs.Common.{◌≡◌, ℕ, List, [], ◌∷◌, ◌++◌, inl, inr, refl, sym, ◌∙◌, ap, subst, arith, Bool, true, false}
use Rattle.std.specs.List.{AllZip, concat}
use Rattle.octets.specs.declared.tag.Class.TheVariants.{Universal}
use Rattle.octets.specs.Rule.{Rule, ber}
use Rattle.types.specs.Shape.{Shape, Val, no_slot}
use Rattle.types.specs.Encoding.{IsEncoding, IsAccepted}
use Rattle.types.specs.Stream.{IsStream}
use Rattle.types.proofs.BerLemmas.{encoding_by_ber}
use Rattle.types.proofs.EncodingLemmas.{encoding_unique}
use Rattle.types.proofs.DepthLemmas.{nested_one, nested_around}
use Rattle.types.proofs.FormInstances.{universal, usable_universal, definite, indefinite}
use Rattle.types.proofs.LeafInstances.{boolean, truth, true_FF, true_any, false_00}
use Rattle.types.proofs.TypeInstances.{empty_sequence, well_formed_boolean}
use Rattle.types.proofs.SequenceInstances.{empty-ber, empty-indefinite}
use Rattle.types.proofs.ApartInstances.{of_no_octets}

accepted : (rule : Rule) (value : Bool) (octet : ℕ) → IsEncoding rule boolean (truth value) (0x01 ∷ 0x01 ∷ octet ∷ []) → IsAccepted rule boolean (truth value) (0x01 ∷ 0x01 ∷ octet ∷ [])
accepted rule value octet h = record {
  encoding = h;
  depth = nested_one ber 64 (universal 1) (octet ∷ []) (0x01 ∷ 0x01 ∷ octet ∷ []) (usable_universal 1 (omega arith)) (definite ber Universal 1 false (octet ∷ []) (omega arith) (omega arith));
  size = omega arith;
}

-- 01 01 FF 01 01 00 is a stream of TRUE and FALSE under every rule, and 01 01 2A 01 01 00 under BER
true_false : (rule : Rule) → IsStream rule boolean (truth true ∷ truth false ∷ []) (0x01 ∷ 0x01 ∷ 0xFF ∷ 0x01 ∷ 0x01 ∷ 0x00 ∷ [])
true_false rule = record {
  encodings = (0x01 ∷ 0x01 ∷ 0xFF ∷ []) ∷ (0x01 ∷ 0x01 ∷ 0x00 ∷ []) ∷ [];
  each = (accepted rule true 0xFF (true_FF rule), (accepted rule false 0x00 (false_00 rule), tt));
  whole = refl;
}

true_false-2A : IsStream ber boolean (truth true ∷ truth false ∷ []) (0x01 ∷ 0x01 ∷ 0x2A ∷ 0x01 ∷ 0x01 ∷ 0x00 ∷ [])
true_false-2A = record {
  encodings = (0x01 ∷ 0x01 ∷ 0x2A ∷ []) ∷ (0x01 ∷ 0x01 ∷ 0x00 ∷ []) ∷ [];
  each = (accepted ber true 0x2A (true_any 0x2A (omega arith) (omega arith)), (accepted ber false 0x00 (false_00 ber), tt));
  whole = refl;
}

-- no octets are a stream of no values, and of no one value
none : (rule : Rule) → IsStream rule boolean [] []
none rule = record { encodings = []; each = tt; whole = refl }

no_encodings : (rule : Rule) (shape : Shape) (encodings : List (List ℕ)) → AllZip (IsAccepted rule shape) [] encodings → encodings ≡ []
no_encodings rule shape [] h = refl
no_encodings rule shape (e ∷ es) h = elim h [ ]

not_none : (rule : Rule) (octet : ℕ) (octets : List ℕ) → IsStream rule boolean [] (octet ∷ octets) → ⊥
not_none rule octet octets h =
    let empty : octet ∷ octets ≡ [] = h.whole ∙ ap concat (no_encodings rule boolean h.encodings h.each) in
    cc

-- the first encoding of a stream, and the stream after it
record HasFirst (rule : Rule) (shape : Shape) (value : Val) (values : List Val) (octets : List ℕ) : Type 0 where
  front : List ℕ
  rest : List ℕ
  encoding : IsEncoding rule shape value front
  whole : octets ≡ front ++ rest
  stream : IsStream rule shape values rest

has_first : (rule : Rule) (shape : Shape) (value : Val) (values : List Val) (octets : List ℕ) → IsStream rule shape (value ∷ values) octets → HasFirst rule shape value values octets
has_first rule shape value values octets h = of_encodings h.encodings h.each h.whole
  where
    of_encodings : (encodings : List (List ℕ)) → AllZip (IsAccepted rule shape) (value ∷ values) encodings → octets ≡ concat encodings → HasFirst rule shape value values octets
    of_encodings [] g whole = elim g [ ]
    of_encodings (e ∷ es) g whole = record { front = e; rest = concat es; encoding = g.0.encoding; whole = whole; stream = record { encodings = es; each = g.1; whole = refl } }

one_of_none : (rule : Rule) (value : Val) (values : List Val) → IsStream rule boolean (value ∷ values) [] → ⊥
one_of_none rule value values h =
    let first = has_first rule boolean value values [] h in
    no_front first.front first.rest first.encoding first.whole
  where
    no_front : (front rest : List ℕ) → IsEncoding rule boolean value front → [] ≡ front ++ rest → ⊥
    no_front [] rest g whole = of_no_octets rule boolean value g
    no_front (o ∷ os) rest g whole = cc

-- the first value is that of the first encoding, and what follows is the rest of the stream
first_is : (rule : Rule) (value : Bool) (other : Val) (values : List Val) (octet : ℕ) (octets : List ℕ) → IsEncoding ber boolean (truth value) (0x01 ∷ 0x01 ∷ octet ∷ [])
    → IsStream rule boolean (other ∷ values) (0x01 ∷ 0x01 ∷ octet ∷ octets) → (other ≡ truth value) × IsStream rule boolean values octets
first_is rule value other values octet octets k h =
    let first = has_first rule boolean other values (0x01 ∷ 0x01 ∷ octet ∷ octets) h in
    let same = encoding_unique boolean other (truth value) first.front (0x01 ∷ 0x01 ∷ octet ∷ []) first.rest octets well_formed_boolean (encoding_by_ber rule boolean other first.front first.encoding) k (sym first.whole) in
    (same.values, subst (IsStream rule boolean values) same.rest first.stream)

-- so 01 01 FF 01 01 00 is no stream of FALSE and TRUE, of TRUE alone, or of TRUE, FALSE and one more
turned : (rule : Rule) → IsStream rule boolean (truth false ∷ truth true ∷ []) (0x01 ∷ 0x01 ∷ 0xFF ∷ 0x01 ∷ 0x01 ∷ 0x00 ∷ []) → ⊥
turned rule h = let same = (first_is rule true (truth false) (truth true ∷ []) 0xFF (0x01 ∷ 0x01 ∷ 0x00 ∷ []) (true_FF ber) h).0 in cc

too_few : (rule : Rule) → IsStream rule boolean (truth true ∷ []) (0x01 ∷ 0x01 ∷ 0xFF ∷ 0x01 ∷ 0x01 ∷ 0x00 ∷ []) → ⊥
too_few rule h = not_none rule 0x01 (0x01 ∷ 0x00 ∷ []) (first_is rule true (truth true) [] 0xFF (0x01 ∷ 0x01 ∷ 0x00 ∷ []) (true_FF ber) h).1

too_many : (rule : Rule) (value : Val) → IsStream rule boolean (truth true ∷ truth false ∷ value ∷ []) (0x01 ∷ 0x01 ∷ 0xFF ∷ 0x01 ∷ 0x01 ∷ 0x00 ∷ []) → ⊥
too_many rule value h =
    let later = (first_is rule true (truth true) (truth false ∷ value ∷ []) 0xFF (0x01 ∷ 0x01 ∷ 0x00 ∷ []) (true_FF ber) h).1 in
    one_of_none rule value [] (first_is rule false (truth false) (value ∷ []) 0x00 [] (false_00 ber) later).1

-- 30 00 30 80 00 00 is a stream of two values of SEQUENCE { } under BER
two_empty : IsStream ber empty_sequence (Val.fields no_slot ∷ Val.fields no_slot ∷ []) (0x30 ∷ 0x00 ∷ 0x30 ∷ 0x80 ∷ 0x00 ∷ 0x00 ∷ [])
two_empty = record {
  encodings = (0x30 ∷ 0x00 ∷ []) ∷ (0x30 ∷ 0x80 ∷ 0x00 ∷ 0x00 ∷ []) ∷ [];
  each = (
    record { encoding = empty-ber; depth = nested_around ber 63 (universal 16) [] (0x30 ∷ 0x00 ∷ []) (usable_universal 16 (omega arith)) tt (inl (definite ber Universal 16 true [] (omega arith) (omega arith))); size = omega arith },
    (record { encoding = empty-indefinite; depth = nested_around ber 63 (universal 16) [] (0x30 ∷ 0x80 ∷ 0x00 ∷ 0x00 ∷ []) (usable_universal 16 (omega arith)) tt (inr (indefinite Universal 16 [] (omega arith))); size = omega arith }, tt),
  );
  whole = refl;
}
