-- All reserved words, in the order of their octets.
use Rattle.std.specs.Prelude.{List, [], ◌∷◌}
use Rattle.lexis.specs.declared.word.Word.{Word}
use Rattle.lexis.specs.declared.word.Word.TheVariants.{Absent, All, Any, Application, Automatic, Begin, Bit, BmpString, Boolean, Character, Choice, Class, Component, Components, Constrained, Containing, Date, DateTime, Default, Definitions, Duration, Embedded, Encoded, End, Enumerated, Except, Explicit, Exports, Extensibility, External, False, From, GeneralString, GeneralizedTime, GraphicString, Ia5String, Identifier, Implicit, Implied, Imports, Includes, Instance, Integer, Intersection, Iso646String, Max, Min, MinusInfinity, Null, NumericString, Object, Octet, Of, OidIri, Optional, ObjectDescriptor, Pattern, Pdv, PlusInfinity, Present, Private, PrintableString, Real, RelativeOid, RelativeOidIri, Sequence, Set, Size, String, Syntax, T61String, Tags, Time, TimeOfDay, True, TeletexString, Union, Unique, Universal, UtcTime, Utf8String, UniversalString, VideotexString, VisibleString, With}

abbrev pub all_words : List Word
all_words =
    Absent ∷ All ∷ Any ∷ Application ∷ Automatic ∷ Begin ∷ Bit ∷ BmpString ∷ Boolean ∷
    Character ∷ Choice ∷ Class ∷ Component ∷ Components ∷ Constrained ∷ Containing ∷ Date ∷ DateTime ∷
    Default ∷ Definitions ∷ Duration ∷ Embedded ∷ Encoded ∷ End ∷ Enumerated ∷ Except ∷ Explicit ∷
    Exports ∷ Extensibility ∷ External ∷ False ∷ From ∷ GeneralString ∷ GeneralizedTime ∷ GraphicString ∷ Ia5String ∷
    Identifier ∷ Implicit ∷ Implied ∷ Imports ∷ Includes ∷ Instance ∷ Integer ∷ Intersection ∷ Iso646String ∷
    Max ∷ Min ∷ MinusInfinity ∷ Null ∷ NumericString ∷ Object ∷ Octet ∷ Of ∷ OidIri ∷
    Optional ∷ ObjectDescriptor ∷ Pattern ∷ Pdv ∷ PlusInfinity ∷ Present ∷ Private ∷ PrintableString ∷ Real ∷
    RelativeOid ∷ RelativeOidIri ∷ Sequence ∷ Set ∷ Size ∷ String ∷ Syntax ∷ T61String ∷ Tags ∷
    Time ∷ TimeOfDay ∷ True ∷ TeletexString ∷ Union ∷ Unique ∷ Universal ∷ UtcTime ∷ Utf8String ∷
    UniversalString ∷ VideotexString ∷ VisibleString ∷ With ∷ []
