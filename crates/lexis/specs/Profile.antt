-- Which of the reserved words stand in the grammar of the profile.
use Rattle.std.specs.Prelude.{Bool, true, false}
use Rattle.lexis.specs.declared.word.Word.{Word}
use Rattle.lexis.specs.declared.word.Word.TheVariants.{Application, Automatic, Begin, Bit, BmpString, Boolean, Choice, Default, Definitions, End, Enumerated, Explicit, False, GeneralizedTime, Ia5String, Identifier, Implicit, Integer, Null, NumericString, Object, Octet, Of, Optional, Private, PrintableString, RelativeOid, Sequence, Set, String, Tags, True, UtcTime, Utf8String, VisibleString}

-- the word stands in the grammar of the profile
abbrev pub is_of_profile : Word → Bool
is_of_profile Application = true
is_of_profile Automatic = true
is_of_profile Begin = true
is_of_profile Bit = true
is_of_profile BmpString = true
is_of_profile Boolean = true
is_of_profile Choice = true
is_of_profile Default = true
is_of_profile Definitions = true
is_of_profile End = true
is_of_profile Enumerated = true
is_of_profile Explicit = true
is_of_profile False = true
is_of_profile GeneralizedTime = true
is_of_profile Ia5String = true
is_of_profile Identifier = true
is_of_profile Implicit = true
is_of_profile Integer = true
is_of_profile Null = true
is_of_profile NumericString = true
is_of_profile Object = true
is_of_profile Octet = true
is_of_profile Of = true
is_of_profile Optional = true
is_of_profile Private = true
is_of_profile PrintableString = true
is_of_profile RelativeOid = true
is_of_profile Sequence = true
is_of_profile Set = true
is_of_profile String = true
is_of_profile Tags = true
is_of_profile True = true
is_of_profile UtcTime = true
is_of_profile Utf8String = true
is_of_profile VisibleString = true
is_of_profile _ = false
