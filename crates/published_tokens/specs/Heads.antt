use Rattle.lexis.specs.declared.word.Word.TheVariants as word
use Rattle.published_tokens.specs.declared.token.Token.{Token}
use Rattle.published_tokens.specs.declared.token.Kind.{Kind}
use Rattle.published_tokens.specs.declared.token.Kind.TheVariants.{Reserved, Symbol, Upper}
use Rattle.published_tokens.specs.declared.symbol.Symbol.TheVariants as symbol
use Rattle.syntax.specs.declared.tree.Tagging.TheVariants.{Explicit, Implicit, Automatic}
use Rattle.published_tokens.specs.declared.heads.Head.{Head}
use Rattle.published_tokens.specs.declared.heads.Stage.{Stage}
use Rattle.published_tokens.specs.declared.heads.Stage.TheVariants as stage

-- what was read of a head, where nothing of it stands before the token
abbrev pub stage_anew : Token → Kind → Stage
stage_anew token Upper = stage.Name token
stage_anew _ _ = stage.Prose

-- what was read of a head behind DEFINITIONS and this token
abbrev pub stage_behind : Head → Token → Kind → Stage
stage_behind head _ (Reserved word.Explicit) = stage.Tags (record head { tagging = Explicit })
stage_behind head _ (Reserved word.Implicit) = stage.Tags (record head { tagging = Implicit })
stage_behind head _ (Reserved word.Automatic) = stage.Tags (record head { tagging = Automatic })
stage_behind head _ (Reserved word.Extensibility) = stage.Extensibility head
stage_behind head _ (Symbol symbol.Assignment) = stage.Assigned head
stage_behind _ token kind = stage_anew token kind
