-- Encodings of a UTCTime under each rule (X.690 8.25, 11.8).
use Rattle.std.proofs.Common.{◌<◌, ℕ, List, [], ◌∷◌, ◌++◌, inl, inr, length, refl, ap, arith, true, All}
use Rattle.std.proofs.lemmas.List.Elements.{All-nil, All-cons}
use Rattle.octets.specs.declared.tag.Class.TheVariants.{Universal}
use Rattle.octets.specs.Rule.{Rule, ber, IsCanonical}
use Rattle.strings.specs.declared.time.TimeKind.TheVariants.{Utc}
use Rattle.strings.specs.Time.{IsDate, IsMoment, IsTime}
use Rattle.types.specs.Shape.{StringType, Shape, StringValue, Val}
use Rattle.types.specs.Conforms.{StringConforms}
use Rattle.types.specs.Encoding.{IsEncoding}
use Rattle.types.proofs.FormInstances.{not_same, universal, usable_universal, definite}
use Rattle.types.proofs.OctetSegmentInstances.{OctetSegments, octets_first, none_of_none}
use Rattle.types.proofs.StringInstances.{few_octets, well_formed_string}
use Rattle.types.proofs.ApartInstances.{in_other_octets}

abbrev utc_time : Shape
utc_time = Shape.string (universal 23) (StringType.time Utc)

-- 240229120000Z: 29 February of a leap year, at noon
abbrev noon : List ℕ
noon = 0x32 ∷ 0x34 ∷ 0x30 ∷ 0x32 ∷ 0x32 ∷ 0x39 ∷ 0x31 ∷ 0x32 ∷ 0x30 ∷ 0x30 ∷ 0x30 ∷ 0x30 ∷ 0x5A ∷ []

leap_day : IsDate Utc 24 2 29
leap_day = record { month_from = omega arith; month_to = omega arith; day_from = omega arith; day_to = inr (refl, refl, refl) }

noon_moment : IsMoment Utc (0x32 ∷ 0x34 ∷ 0x30 ∷ 0x32 ∷ 0x32 ∷ 0x39 ∷ 0x31 ∷ 0x32 ∷ 0x30 ∷ 0x30 ∷ 0x30 ∷ 0x30 ∷ [])
noon_moment = record { year = 24; month = 2; day = 29; hour = 12; minute = 0; second = 0; year_to = omega arith; date = leap_day; time = (omega arith, omega arith, omega arith); spelt = refl }

noon_time : IsTime Utc noon
noon_time = record { moment = 0x32 ∷ 0x34 ∷ 0x30 ∷ 0x32 ∷ 0x32 ∷ 0x39 ∷ 0x31 ∷ 0x32 ∷ 0x30 ∷ 0x30 ∷ 0x30 ∷ 0x30 ∷ []; rest = 0x5A ∷ []; is_moment = noon_moment; is_end = record { fraction = []; is_fraction = refl; spelt = refl }; spelt = refl }

noon_octets : All (λ o. o < 256) noon
noon_octets =
    All-cons (λ o. o < 256) 0x32 (0x34 ∷ 0x30 ∷ 0x32 ∷ 0x32 ∷ 0x39 ∷ 0x31 ∷ 0x32 ∷ 0x30 ∷ 0x30 ∷ 0x30 ∷ 0x30 ∷ 0x5A ∷ []) (omega arith) (All-cons (λ o. o < 256) 0x34 (0x30 ∷ 0x32 ∷ 0x32 ∷ 0x39 ∷ 0x31 ∷ 0x32 ∷ 0x30 ∷ 0x30 ∷ 0x30 ∷ 0x30 ∷ 0x5A ∷ []) (omega arith) (All-cons (λ o. o < 256) 0x30 (0x32 ∷ 0x32 ∷ 0x39 ∷ 0x31 ∷ 0x32 ∷ 0x30 ∷ 0x30 ∷ 0x30 ∷ 0x30 ∷ 0x5A ∷ []) (omega arith)
    (All-cons (λ o. o < 256) 0x32 (0x32 ∷ 0x39 ∷ 0x31 ∷ 0x32 ∷ 0x30 ∷ 0x30 ∷ 0x30 ∷ 0x30 ∷ 0x5A ∷ []) (omega arith) (All-cons (λ o. o < 256) 0x32 (0x39 ∷ 0x31 ∷ 0x32 ∷ 0x30 ∷ 0x30 ∷ 0x30 ∷ 0x30 ∷ 0x5A ∷ []) (omega arith) (All-cons (λ o. o < 256) 0x39 (0x31 ∷ 0x32 ∷ 0x30 ∷ 0x30 ∷ 0x30 ∷ 0x30 ∷ 0x5A ∷ []) (omega arith)
    (All-cons (λ o. o < 256) 0x31 (0x32 ∷ 0x30 ∷ 0x30 ∷ 0x30 ∷ 0x30 ∷ 0x5A ∷ []) (omega arith) (All-cons (λ o. o < 256) 0x32 (0x30 ∷ 0x30 ∷ 0x30 ∷ 0x30 ∷ 0x5A ∷ []) (omega arith) (All-cons (λ o. o < 256) 0x30 (0x30 ∷ 0x30 ∷ 0x30 ∷ 0x5A ∷ []) (omega arith)
    (All-cons (λ o. o < 256) 0x30 (0x30 ∷ 0x30 ∷ 0x5A ∷ []) (omega arith) (All-cons (λ o. o < 256) 0x30 (0x30 ∷ 0x5A ∷ []) (omega arith) (All-cons (λ o. o < 256) 0x30 (0x5A ∷ []) (omega arith)
    (All-cons (λ o. o < 256) 0x5A [] (omega arith) (All-nil (λ o. o < 256))))))))))))))

noon_conforms : StringConforms (StringType.time Utc) (StringValue.text noon)
noon_conforms = (noon_octets, noon_time)

-- 17 0D and the text under every rule
utc_noon : (rule : Rule) → IsEncoding rule utc_time (Val.string (StringValue.text noon)) (0x17 ∷ 0x0D ∷ noon)
utc_noon rule = record { string_octets = noon; is = refl; conforms = noon_conforms; string = few_octets rule Universal 23 noon (omega arith) (omega arith) }

-- 37 0F 04 0D and the text under BER alone
noon_segments : OctetSegments (noon ++ []) (0x04 ∷ 0x0D ∷ (noon ++ []))
noon_segments = octets_first noon [] [] (omega arith) none_of_none

utc_noon-cut : IsEncoding ber utc_time (Val.string (StringValue.text noon)) (0x37 ∷ 0x0F ∷ 0x04 ∷ 0x0D ∷ noon)
utc_noon-cut = record {
  string_octets = noon;
  is = refl;
  conforms = noon_conforms;
  string = inr record { contents = 0x04 ∷ 0x0D ∷ noon; segments = noon_segments; constructed = inl (definite ber Universal 23 true (0x04 ∷ 0x0D ∷ noon) (omega arith) (omega arith)) };
}

utc_noon-cut_canonical : (rule : Rule) → IsCanonical rule → IsEncoding rule utc_time (Val.string (StringValue.text noon)) (0x37 ∷ 0x0F ∷ 0x04 ∷ 0x0D ∷ noon) → ⊥
utc_noon-cut_canonical rule canonical h =
    in_other_octets rule utc_time (Val.string (StringValue.text noon)) (0x17 ∷ 0x0D ∷ noon) (0x37 ∷ 0x0F ∷ 0x04 ∷ 0x0D ∷ noon) (well_formed_string (universal 23) (StringType.time Utc) (usable_universal 23 (omega arith)) (omega arith) tt tt) canonical (utc_noon rule)
    (λ same. not_same 15 17 (omega arith) (ap length same)) h
