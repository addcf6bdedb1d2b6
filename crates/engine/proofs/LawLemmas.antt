-- The laws of conversions of one value.
use Rattle.std.proofs.Common.{ℕ, List, [], refl}
use Rattle.octets.specs.declared.canonical.Canonical.{Canonical}
use Rattle.octets.specs.Rule as encoding
use Rattle.types.specs.Encoding.{IsAccepted}
use Rattle.types.specs.Same.{IsSame}
use Rattle.types.specs.Shape.{Shape, Val}
use Rattle.types.specs.WellFormed.{IsWellFormed}
use Rattle.octets.proofs.RuleLemmas.{rule_is_canonical}
use Rattle.types.proofs.EncodingLemmas.{encoding_unique}
use Rattle.types.proofs.OneEncodingLemmas.{one_canonical}
use Rattle.types.proofs.SameExactlyLemmas.{equal_exactly_if_same as equal_encodings}
use Rattle.strict.proofs.StrictLemmas.{as_ber as accepted_as_ber}
use Rattle.engine.specs.declared.rule.Rule.{Rule}
use Rattle.engine.specs.Rule.{rule_of, canonical_rule_of}
use Rattle.engine.specs.Laws.{EqualExactlyIfSame, StayAsTheyAre, WrittenOctetsStay}
use Rattle.engine.specs.Transcoding.{IsTranscoded}
use Rattle.engine.proofs.TranscodingLemmas.{as_ber, accepted_as}

-- octets have one value
pub one_value : (shape : Shape) (v w : Val) (octets : List ℕ) → IsWellFormed shape → IsAccepted encoding.ber shape v octets → IsAccepted encoding.ber shape w octets → IsSame shape v w
one_value shape v w octets well h g = (encoding_unique shape v w octets octets [] [] well h.encoding g.encoding refl).values

-- what octets become is an encoding of any value that they have
pub becomes : (from : Rule) (to : Canonical) (shape : Shape) (v : Val) (octets written : List ℕ) → IsWellFormed shape → IsAccepted (rule_of from) shape v octets → IsTranscoded (rule_of from) (canonical_rule_of to) shape octets written
    → IsAccepted (canonical_rule_of to) shape v written
becomes from to shape v octets written well h t =
    accepted_as (canonical_rule_of to) shape v t.value written well (one_value shape v t.value octets well (as_ber from shape v octets well h) (as_ber from shape t.value octets well t.read)) t.put

pub equal_exactly_if_same : EqualExactlyIfSame
equal_exactly_if_same from other to shape v w a b x y well h g t u =
    equal_encodings (canonical_rule_of to) shape v w x y well (rule_is_canonical to) (becomes from to shape v a x well h t).encoding (becomes other to shape w b y well g u).encoding

-- octets that a canonical rule gives a value stay, by whatever rule they are read that BER contains
pub they_stay : (from : encoding.Rule) (to : Canonical) (shape : Shape) (v : Val) (octets : List ℕ) → IsWellFormed shape → ((w : Val) → IsAccepted from shape w octets → IsAccepted encoding.ber shape w octets)
    → IsAccepted from shape v octets → IsAccepted (canonical_rule_of to) shape v octets → StayAsTheyAre from (canonical_rule_of to) shape octets
they_stay from to shape v octets well ber h g = record {
  stay = record { value = v; read = h; put = g };
  only = λ others t.
      let same = one_value shape v t.value octets well (ber v h) (ber t.value t.read) in
      let again = accepted_as (canonical_rule_of to) shape v t.value others well same t.put in
      one_canonical (canonical_rule_of to) shape v others octets well (rule_is_canonical to) again.encoding g.encoding;
}

pub written_octets_stay : WrittenOctetsStay
written_octets_stay from to shape octets written well t =
    let own = canonical_rule_of to in
    let as_ber_of = λ (w : Val) (h : IsAccepted own shape w written). accepted_as_ber own shape w written well (rule_is_canonical to) h in
    (they_stay encoding.ber to shape t.value written well (λ w h. h) (as_ber_of t.value t.put) t.put, they_stay own to shape t.value written well as_ber_of t.put t.put)
