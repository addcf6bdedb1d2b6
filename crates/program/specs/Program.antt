-- The program's commands, as `clap` reads them.
use Rattle.std.specs.Prelude.{◌≡◌, ℕ, true, false, List, [], ◌∷◌, Some, codes, map}
use Rattle.clap.specs.Simple.{App, new_app, new_rule, on_top, with_rule, with_subcommand}
use Rattle.clap.specs.Walk.{Rule}
use Rattle.clap.specs.Words.{app_of}
use Rattle.clap.specs.declared.builder.command.Command.TheViews.{out-Command}
use Rattle.clap.specs.declared.builder.command.Command.{Command}
use Rattle.clap.specs.declared.builder.action.ArgAction.TheVariants.{SetTrue}
use Rattle.clap.specs.declared.builder.value_parser.ValueParser.{ValueParser}
use Rattle.clap.specs.declared.builder.value_parser.ValueParser.TheVariants.{Names}

-- a word that must be there
abbrev pub needed : List ℕ → Rule
needed id = record (new_rule id) { required = true }

-- an option whose value is a rule
abbrev pub rules_option : List ℕ → ValueParser → Rule
rules_option id parser = record (new_rule id) { long = Some id; value_names = 1; parser = Some parser }

abbrev pub from_option : ValueParser → Rule
from_option parser = record (rules_option (codes "from") parser) { defaults = codes "ber" ∷ [] }

abbrev pub to_option : ValueParser → Rule
to_option parser = record (rules_option (codes "to") parser) { required = true }

abbrev pub hex_option : Rule
hex_option = record (new_rule (codes "hex")) { long = Some (codes "hex"); action = Some SetTrue }

-- `MODULE TYPE INPUT [--from RULES] [--hex]` of a command
abbrev pub with_input : ValueParser → App → App
with_input from app = with_rule (with_rule (with_rule (with_rule (with_rule app (needed (codes "MODULE"))) (needed (codes "TYPE"))) (needed (codes "INPUT"))) (from_option from)) hex_option

abbrev pub own_app : App
own_app = on_top (λ s. record s { has_version = true; subcommand_required = true }) (new_app (codes "asn1x"))

-- the three commands, and what each takes as the rule to read by; and the last, as the rule to write by
abbrev pub program_app : ValueParser → ValueParser → ValueParser → ValueParser → App
program_app show check convert to =
    with_subcommand (with_subcommand (with_subcommand own_app (with_input show (new_app (codes "show"))).top)
    (with_input check (new_app (codes "check"))).top) (with_rule (with_input convert (new_app (codes "convert"))) (to_option to)).top

-- one of these names
abbrev pub IsNames : List (List ℕ) → ValueParser → Type 0
IsNames texts (Names names) = map (λ name. name.now) names.now ≡ texts
IsNames texts _ = ⊥

abbrev pub rule_names : List (List ℕ)
rule_names = codes "ber" ∷ codes "cer" ∷ codes "der" ∷ []

abbrev pub canonical_names : List (List ℕ)
canonical_names = codes "cer" ∷ codes "der" ∷ []

-- the command is another one with the words and options of an input
pub record TakesInput (app : App) (command : Command) : Type 0 where
  pub from : ValueParser
  pub from_names : IsNames rule_names from
  pub is : app_of command ≡ with_input from app
  pub local : (out-Command command).has_globals ≡ false

-- and with the rule to write by
pub record TakesInputAndRules (app : App) (command : Command) : Type 0 where
  pub from : ValueParser
  pub to : ValueParser
  pub from_names : IsNames rule_names from
  pub to_names : IsNames canonical_names to
  pub is : app_of command ≡ with_rule (with_input from app) (to_option to)
  pub local : (out-Command command).has_globals ≡ false

-- the command is the program's
pub record IsProgram (app : App) : Type 0 where
  pub show : ValueParser
  pub check : ValueParser
  pub convert : ValueParser
  pub to : ValueParser
  pub show_names : IsNames rule_names show
  pub check_names : IsNames rule_names check
  pub convert_names : IsNames rule_names convert
  pub to_names : IsNames canonical_names to
  pub is : app ≡ program_app show check convert to
