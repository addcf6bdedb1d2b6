-- What the parser reads of tags.
use Rattle.std.specs.Prelude.{Some, if◌then◌else◌}
use Rattle.lexis.specs.declared.word.Word.TheVariants.{Application, Explicit, Implicit, Private}
use Rattle.lexis.specs.declared.symbol.Symbol.TheVariants.{CloseBracket}
use Rattle.syntax.specs.declared.tree.TagClass.{TagClass}
use Rattle.syntax.specs.declared.tree.TagClass.TheVariants.{ContextSpecific, Application as ClassApplication, Private as ClassPrivate}
use Rattle.syntax.specs.declared.tree.TagMode.{TagMode}
use Rattle.syntax.specs.declared.tree.TagMode.TheVariants.{Unmarked, Implicit as ModeImplicit, Explicit as ModeExplicit}
use Rattle.syntax.specs.declared.tree.TagPrefix.{TagPrefix}
use Rattle.syntax.specs.Reading.{◌>>=◌, Reads, first_at, is_word, symbol_at, limited_number_at}

unfoldable pub class_at : Reads TagClass
class_at ts = do
  s ← first_at ts
  if is_word Application s.0 then Some (ClassApplication, s.1) else (if is_word Private s.0 then Some (ClassPrivate, s.1) else Some (ContextSpecific, ts))

unfoldable pub mode_at : Reads TagMode
mode_at ts = do
  s ← first_at ts
  if is_word Implicit s.0 then Some (ModeImplicit, s.1) else (if is_word Explicit s.0 then Some (ModeExplicit, s.1) else Some (Unmarked, ts))

unfoldable pub prefix_at : Reads TagPrefix
prefix_at ts = do
  c ← class_at ts
  n ← limited_number_at 268435455 c.1
  r ← symbol_at CloseBracket n.1
  m ← mode_at r
  Some (record { class = c.0; number = n.0; mode = m.0 }, m.1)
