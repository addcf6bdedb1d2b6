use Rattle.lexis.specs.declared.word.Word.TheVariants as word
use Rattle.published_tokens.specs.declared.token.Kind.{Kind}
use Rattle.published_tokens.specs.declared.token.Kind.TheVariants.{Reserved}
use Rattle.published_tokens.specs.declared.tags.TagClass.{TagClass}
use Rattle.published_tokens.specs.declared.tags.TagClass.TheVariants.{Universal, Application, ContextSpecific, Private}
use Rattle.syntax.specs.declared.tree.TagMode.{TagMode}
use Rattle.syntax.specs.declared.tree.TagMode.TheVariants.{Unmarked, Implicit, Explicit}

-- the class that the token behind [ gives a tag (X.680 31.2)
abbrev pub class_of : Kind → TagClass
class_of (Reserved word.Universal) = Universal
class_of (Reserved word.Application) = Application
class_of (Reserved word.Private) = Private
class_of _ = ContextSpecific

-- the mode that the token behind ] gives a tag (X.680 31.2)
abbrev pub mode_of : Kind → TagMode
mode_of (Reserved word.Implicit) = Implicit
mode_of (Reserved word.Explicit) = Explicit
mode_of _ = Unmarked
