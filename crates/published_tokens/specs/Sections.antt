use Rattle.std.specs.Prelude.{ℕ, ◌+◌, ◌==◌, nat_lt, Bool, true, false, Option, Some, None, is_some, unwrap_or, if◌then◌else◌}
use Rattle.published_tokens.specs.declared.extension.Extension.{Extension}
use Rattle.published_tokens.specs.declared.extension.Section.{Section}
use Rattle.published_tokens.specs.declared.extension.Section.TheVariants.{Root, Additions, Tail}
use Rattle.published_tokens.specs.declared.place.Place.{Place}
use Rattle.published_tokens.specs.declared.symbol.Symbol.TheVariants.{Ellipsis, OpenGroup, CloseGroup, Comma, CloseBrace}
use Rattle.published_tokens.specs.declared.token.Kind.{Kind}
use Rattle.published_tokens.specs.declared.token.Kind.TheVariants.{Symbol}
use Rattle.published_tokens.specs.declared.token.Token.{Token}

-- the part of a list behind so many extension markers
abbrev pub section_of : ℕ → Section
section_of markers = if markers == 0 then Root else (if markers == 1 then Additions else Tail)

-- the list behind a ... there, of which there is no third
abbrev pub behind_marker : Extension → Place → Option Extension
behind_marker list place =
    if nat_lt list.markers 2 then Some (record list { marker = Some (unwrap_or list.marker place); markers = list.markers + 1 }) else None

-- the list behind a [[ there, which stands among the additions alone
abbrev pub behind_opening : Extension → Place → Option Extension
behind_opening list place = if list.markers == 1 then Some (record list { group = Some place }) else None

-- the list outside of [[ and ]], behind what this token begins before a component
abbrev pub behind_token : Extension → Place → Kind → Option Extension
behind_token list place (Symbol Ellipsis) = behind_marker list place
behind_token list place (Symbol OpenGroup) = behind_opening list place
behind_token list _ _ = Some list

-- the list behind what this token begins before a component, if it can stand there
abbrev pub before_component : Extension → Token → Option Extension
before_component list front = if is_some list.group then Some list else behind_token list front.place front.kind

-- the list behind a component and the ]] that this token may be
abbrev pub behind_component : Extension → Kind → Extension
behind_component list (Symbol CloseGroup) = record list { group = None }
behind_component list _ = list

-- whether the list ends with this token behind a component, if it can stand there
abbrev pub ends_with : Extension → Kind → Option Bool
ends_with list (Symbol Comma) = Some false
ends_with list (Symbol CloseBrace) = if is_some list.group then None else Some true
ends_with list _ = None
