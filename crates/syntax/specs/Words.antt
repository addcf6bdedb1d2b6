-- What is spelled in reserved words alone (X.680 clauses 17 to 41).
use Rattle.std.specs.Prelude.{List, [], ◌∷◌}
use Rattle.lexis.specs.declared.word.Word.TheVariants.{Application, Bit, BmpString, Boolean, Explicit, GeneralizedTime, Ia5String, Identifier, Implicit, Integer, Null, NumericString, Object, Octet, Private, PrintableString, RelativeOid, Sequence, Set, String, UtcTime, Utf8String, VisibleString}
use Rattle.lexis.specs.Signs.{Sign, word}
use Rattle.syntax.specs.declared.tree.Simple.{Simple}
use Rattle.syntax.specs.declared.tree.Simple.TheVariants as t
use Rattle.syntax.specs.declared.tree.Group.{Group}
use Rattle.syntax.specs.declared.tree.Group.TheVariants.{Sequence as InOrder, Set as InAnyOrder}
use Rattle.syntax.specs.declared.tree.TagClass.{TagClass}
use Rattle.syntax.specs.declared.tree.TagClass.TheVariants.{ContextSpecific, Application as ClassApplication, Private as ClassPrivate}
use Rattle.syntax.specs.declared.tree.TagMode.{TagMode}
use Rattle.syntax.specs.declared.tree.TagMode.TheVariants.{Unmarked, Implicit as ModeImplicit, Explicit as ModeExplicit}

-- the reserved words that name a type
abbrev pub simple_type : Simple → List Sign
simple_type t.Boolean = word Boolean ∷ []
simple_type t.Integer = word Integer ∷ []
simple_type t.Null = word Null ∷ []
simple_type t.BitString = word Bit ∷ word String ∷ []
simple_type t.OctetString = word Octet ∷ word String ∷ []
simple_type t.ObjectIdentifier = word Object ∷ word Identifier ∷ []
simple_type t.RelativeOid = word RelativeOid ∷ []
simple_type t.Utf8String = word Utf8String ∷ []
simple_type t.NumericString = word NumericString ∷ []
simple_type t.PrintableString = word PrintableString ∷ []
simple_type t.Ia5String = word Ia5String ∷ []
simple_type t.VisibleString = word VisibleString ∷ []
simple_type t.BmpString = word BmpString ∷ []
simple_type t.UtcTime = word UtcTime ∷ []
simple_type t.GeneralizedTime = word GeneralizedTime ∷ []

-- `SEQUENCE` or `SET`
abbrev pub group_word : Group → Sign
group_word InOrder = word Sequence
group_word InAnyOrder = word Set

-- [ `APPLICATION` | `PRIVATE` ]
abbrev pub class_word : TagClass → List Sign
class_word ContextSpecific = []
class_word ClassApplication = word Application ∷ []
class_word ClassPrivate = word Private ∷ []

-- [ `IMPLICIT` | `EXPLICIT` ]
abbrev pub mode_word : TagMode → List Sign
mode_word Unmarked = []
mode_word ModeImplicit = word Implicit ∷ []
mode_word ModeExplicit = word Explicit ∷ []
