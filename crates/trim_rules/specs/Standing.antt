-- What is written behind a component (X.680 clause 25).
use Rattle.std.specs.Prelude.{Option, Some, None}
use Rattle.syntax.specs.declared.tree.DefaultValue.{DefaultValue}
use Rattle.syntax.specs.declared.tree.Presence.{Presence}
use Rattle.syntax.specs.declared.tree.Presence.TheVariants.{Required, Optional, Default}
use Rattle.trim_rules.specs.declared.standing.Standing.{Standing}
use Rattle.trim_rules.specs.declared.standing.Standing.TheVariants as standing

-- a DEFAULT stays a DEFAULT, or nothing is written
abbrev pub presence_of : Standing → Option DefaultValue → Option Presence
presence_of standing.Required literal = Some Required
presence_of standing.Optional literal = Some Optional
presence_of standing.Default None = None
presence_of standing.Default (Some value) = Some (Default value)
