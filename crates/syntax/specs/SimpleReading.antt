-- What the parser reads of types that are named.
use Rattle.std.specs.Prelude.{List, Option, Some, None}
use Rattle.lexis.specs.declared.word.Word.{Word}
use Rattle.lexis.specs.declared.word.Word.TheVariants.{BmpString, Boolean, GeneralizedTime, Ia5String, Identifier, Integer, Null, NumericString, Object, Octet, PrintableString, RelativeOid, String, UtcTime, Utf8String, VisibleString}
use Rattle.syntax.specs.declared.tree.Simple.{Simple}
use Rattle.syntax.specs.declared.tree.Simple.TheVariants as t
use Rattle.syntax.specs.Tree.{Form, simple, reference}
use Rattle.lexis.specs.Signs.{Sign, word, type_name}
use Rattle.syntax.specs.Reading.{◌>>=◌, Reads, word_at}

-- the simple type that begins with the word, and the word that follows it
abbrev pub simple_of : Word → Option (Simple × Option Word)
simple_of Boolean = Some (t.Boolean, None)
simple_of Integer = Some (t.Integer, None)
simple_of Null = Some (t.Null, None)
simple_of Octet = Some (t.OctetString, Some String)
simple_of Object = Some (t.ObjectIdentifier, Some Identifier)
simple_of RelativeOid = Some (t.RelativeOid, None)
simple_of Utf8String = Some (t.Utf8String, None)
simple_of NumericString = Some (t.NumericString, None)
simple_of PrintableString = Some (t.PrintableString, None)
simple_of Ia5String = Some (t.Ia5String, None)
simple_of VisibleString = Some (t.VisibleString, None)
simple_of BmpString = Some (t.BmpString, None)
simple_of UtcTime = Some (t.UtcTime, None)
simple_of GeneralizedTime = Some (t.GeneralizedTime, None)
simple_of _ = None

unfoldable pub behind_at : Option Word → List Sign → Option (List Sign)
behind_at None ts = Some ts
behind_at (Some k) ts = word_at k ts

unfoldable pub simple_at : Word → Reads Form
simple_at w ts = do
  s ← simple_of w
  r ← behind_at s.1 ts
  Some (simple s.0, r)

-- a simple type or a name, whose first terminal is s
unfoldable pub plain_at : Sign → Reads Form
plain_at (type_name n) ts = Some (reference n, ts)
plain_at (word w) ts = simple_at w ts
plain_at _ ts = None
