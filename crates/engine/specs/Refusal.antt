-- What each call is refused with. The rule is the one that octets are read by: 12 comes of CER and DER alone.
use Rattle.std.specs.Prelude.{⊤}
use Rattle.octets.specs.Rule.{Rule, IsCanonical}
use Rattle.types.specs.declared.refusal.Refusal.{Refusal}
use Rattle.types.specs.declared.refusal.Refusal.TheVariants.{NotCanonical, OutputTooLong, SinkFault, NoMemory}
use Rattle.types.specs.Refusal.{IsOfOctets, IsFinal}

-- 1 to 12 and 17: what reading a value is refused with
abbrev pub IsOfReadingBy : Rule → Refusal → Type 0
IsOfReadingBy rule NotCanonical = IsCanonical rule
IsOfReadingBy _ NoMemory = ⊤
IsOfReadingBy _ refusal = IsOfOctets refusal

-- 1 to 12, 14 and 17: what a conversion of octets to octets is refused with
abbrev pub IsOfTranscoding : Rule → Refusal → Type 0
IsOfTranscoding rule NotCanonical = IsCanonical rule
IsOfTranscoding _ OutputTooLong = ⊤
IsOfTranscoding _ NoMemory = ⊤
IsOfTranscoding _ refusal = IsOfOctets refusal

-- 2 to 12, 14 and 17: what gathering values of a piece is refused with
abbrev pub IsOfGathering : Rule → Refusal → Type 0
IsOfGathering rule NotCanonical = IsCanonical rule
IsOfGathering _ OutputTooLong = ⊤
IsOfGathering _ NoMemory = ⊤
IsOfGathering _ refusal = IsFinal refusal

-- 1 to 17: what a call that writes encodings is refused with
abbrev pub IsOfConverting : Rule → Refusal → Type 0
IsOfConverting rule NotCanonical = IsCanonical rule
IsOfConverting _ _ = ⊤

-- 1 to 13, 15 and 17: what a call that writes nothing is refused with
abbrev pub IsOfChecking : Rule → Refusal → Type 0
IsOfChecking rule NotCanonical = IsCanonical rule
IsOfChecking _ OutputTooLong = ⊥
IsOfChecking _ SinkFault = ⊥
IsOfChecking _ _ = ⊤

-- 1 to 13 and 15 to 17: what a call that writes texts is refused with
abbrev pub IsOfListing : Rule → Refusal → Type 0
IsOfListing rule NotCanonical = IsCanonical rule
IsOfListing _ OutputTooLong = ⊥
IsOfListing _ _ = ⊤
