-- What a command line takes of the matches that `clap` finds in the program's words.
use Rattle.std.specs.Prelude.{◌≡◌, ℕ, true, false, List, [], Some, IsSome, codes, string_bytes}
use Rattle.clap.specs.Words.{App, fault_of, first_value, found_of, one_text, rows_of, subcommand_of}
use Rattle.clap.specs.declared.parser.matches.ArgMatches.{ArgMatches}
use Rattle.program.specs.declared.command_line.Line.{Line}
use Rattle.program.specs.declared.command_line.Verb.{Verb}
use Rattle.program.specs.declared.command_line.Verb.TheVariants.{Convert}
use Rattle.engine.specs.Canonical.{Canonical}
use Rattle.engine.specs.declared.rule.Rule.{Rule}
use Rattle.program.specs.CommandLine.{word_of_canonical, word_of_rule, word_of_verb}
use Rattle.program.specs.Program.{IsProgram}

-- a line that asks for this finds its words among the entries
pub record HasWords (verb : Verb) (matches : ArgMatches) : Type 0 where
  pub «module» : IsSome (first_value (found_of matches) (codes "MODULE"))
  pub name : IsSome (first_value (found_of matches) (codes "TYPE"))
  pub input : IsSome (first_value (found_of matches) (codes "INPUT"))
  pub from : (rule : Rule) × (first_value (found_of matches) (codes "from") ≡ Some (word_of_rule rule))
  pub to : verb ≡ Convert → (rule : Canonical) × (first_value (found_of matches) (codes "to") ≡ Some (word_of_canonical rule))

-- the command line says what the entries say
pub record HasEntries (matches : ArgMatches) (line : Line) : Type 0 where
  pub «module» : first_value (found_of matches) (codes "MODULE") ≡ Some (string_bytes line.module)
  pub name : first_value (found_of matches) (codes "TYPE") ≡ Some (string_bytes line.name)
  pub input : first_value (found_of matches) (codes "INPUT") ≡ Some (string_bytes line.input)
  pub from : first_value (found_of matches) (codes "from") ≡ Some (word_of_rule line.from)
  pub to : (rule : Canonical) → line.to ≡ Some rule → first_value (found_of matches) (codes "to") ≡ Some (word_of_canonical rule)
  pub hex : one_text (found_of matches) (codes "hex") ≡ Some (codes "true") → line.hex ≡ true
  pub no_hex : one_text (found_of matches) (codes "hex") ≡ Some (codes "false") → line.hex ≡ false

-- the program's command has no fault in the words and names a subcommand with these entries by them, and the command
-- line says what they say
pub record IsLineOf (words : List (List ℕ)) (line : Line) : Type 0 where
  pub app : App
  pub inner : ArgMatches
  pub program : IsProgram app
  pub taken : fault_of app words ≡ []
  pub met : subcommand_of app words ≡ Some (word_of_verb line.verb, rows_of (found_of inner))
  pub entries : HasEntries inner line
