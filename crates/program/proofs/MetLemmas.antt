-- The subcommand that words name which `clap` does not refuse.
use Rattle.std.proofs.Common.{◌≡◌, List, [], Bool, true, false, Option, Some, None, refl, sym, subst, ◌∙◌, codes, ◌||◌}
use Rattle.std.specs.Prelude.{if◌then◌else◌, not, is_some, option_map, ◌&&◌}
use Rattle.std.specs.Option.{option_map_or}
use Rattle.std.specs.Str.{bytes_eq}
use Rattle.std.proofs.lemmas.Slice.Eq.{bytes_eq-Decides}
use Rattle.clap.specs.declared.builder.value_parser.ValueParser.{ValueParser}
use Rattle.clap.specs.Faults.{entered_fault, fault_of, level_fault}
use Rattle.clap.specs.Simple.{App, Shape, argument_words, built, built_leaf, entered, help_shape, names_of, rows_at, subcommand_of}
use Rattle.clap.specs.Walk.{Row, Text, answers_to, nothing_held, stop_after, walk_from}
use Rattle.program.specs.declared.command_line.Verb.{Verb}
use Rattle.program.specs.declared.command_line.Verb.TheVariants.{Show, Check, Convert}
use Rattle.program.specs.CommandLine.{word_of_verb}
use Rattle.program.specs.Program.{IsNames, IsProgram, canonical_names, program_app, rule_names}
use Rattle.program.proofs.LevelLemmas.{StopsElsewhere, below_none, checked, walk_elsewhere, walk_none}
use Rattle.program.proofs.SubcommandLemmas.{HasRowsOf, convert_entries, convert_shape, input_entries, input_shape}

-- the subcommand of one of the verbs, and what it asks for
abbrev pub IsMet : Option (Text × List Row) → Type 0
IsMet found = (verb : Verb) × (rows : List Row) × (found ≡ Some (word_of_verb verb, rows)) × HasRowsOf verb rows

not_help : (name : Text) → bytes_eq name (codes "help") ≡ false → answers_to name (codes "help", []) ≡ false
not_help name other = go (bytes_eq (codes "help") name) refl
  where
    go : (b : Bool) → bytes_eq (codes "help") name ≡ b → (b || false) ≡ false
    go true is =
        let same : bytes_eq name (codes "help") ≡ true = (bytes_eq-Decides name (codes "help")).1 (sym ((bytes_eq-Decides (codes "help") name).0 is)) in
        sym same ∙ other
    go false is = refl

some_entered : (has : Bool) → (not has && true) ≡ false → has ≡ true
some_entered true h = refl
some_entered false h = sym h

module _ (show check convert to : ValueParser) (show_names : IsNames rule_names show) (check_names : IsNames rule_names check) (convert_names : IsNames rule_names convert) (to_names : IsNames canonical_names to) where
  abbrev app : App
  app = built (program_app show check convert to)

  abbrev show_input : Shape
  show_input = input_shape show check convert to (codes "show") show

  abbrev check_input : Shape
  check_input = input_shape show check convert to (codes "check") check

  abbrev to_convert : Shape
  to_convert = convert_shape show check convert to

  abbrev help_input : Shape
  help_input = built_leaf help_shape

  -- the one that the word names, by the tests of the names in order
  abbrev named : Bool → Bool → Bool → Bool → Option Shape
  named is_show is_check is_convert is_help =
      if is_show then Some show_input else if is_check then Some check_input else if is_convert then Some to_convert else if is_help then Some help_input else None

  met_by : (words : List Text) (is_show is_check is_convert is_help : Bool) → is_help ≡ false
      → option_map_or (λ s. level_fault s [] nothing_held words false []) (named is_show is_check is_convert is_help) [] ≡ []
      → is_some (option_map (λ s. rows_at s words) (named is_show is_check is_convert is_help)) ≡ true
      → IsMet (option_map (λ s. rows_at s words) (named is_show is_check is_convert is_help))
  met_by words true is_check is_convert is_help elsewhere none some =
      (Show, (rows_at show_input words).1, refl, record { input = input_entries show check convert to (codes "show") show words show_names none; to = λ e. absurd (cc e) })
  met_by words false true is_convert is_help elsewhere none some =
      (Check, (rows_at check_input words).1, refl, record { input = input_entries show check convert to (codes "check") check words check_names none; to = λ e. absurd (cc e) })
  met_by words false false true is_help elsewhere none some =
      let entries = convert_entries show check convert to words convert_names to_names none in
      (Convert, (rows_at to_convert words).1, refl, record { input = entries.0; to = λ e. entries.1 })
  met_by words false false false true elsewhere none some = absurd (cc elsewhere)
  met_by words false false false false elsewhere none some = absurd (cc some)

  met_at : (stop : Option (Text × List Text)) → StopsElsewhere stop → entered_fault app stop ≡ [] → is_some (entered app stop) ≡ true → IsMet (entered app stop)
  met_at None elsewhere none some = absurd (cc some)
  met_at (Some p) elsewhere none some =
      met_by p.1 (answers_to p.0 (codes "show", [])) (answers_to p.0 (codes "check", [])) (answers_to p.0 (codes "convert", [])) (answers_to p.0 (codes "help", []))
      (not_help p.0 elsewhere) none some

  pub met_of_program : (words : List Text) → fault_of (program_app show check convert to) words ≡ [] → IsMet (subcommand_of (program_app show check convert to) words)
  met_of_program words none =
      let arguments = argument_words (program_app show check convert to) words in
      let stop = stop_after app.top.rules (names_of app) arguments in
      let has = is_some (entered app stop) in
      let below = entered_fault app stop in
      let elsewhere = walk_elsewhere app.top refl (names_of app) arguments (walk_from nothing_held) (walk_none app.top (names_of app) arguments has below none) tt in
      met_at stop elsewhere (below_none app.top (names_of app) arguments has below none) (some_entered has (checked app.top (names_of app) arguments has below none).subcommand)

-- the subcommand that the program's words name, where `clap` does not refuse them
pub met_of : (a : App) (words : List Text) → IsProgram a → fault_of a words ≡ [] → IsMet (subcommand_of a words)
met_of a words program none =
    subst (λ (x : App). fault_of x words ≡ [] → IsMet (subcommand_of x words)) (sym program.is)
    (met_of_program program.show program.check program.convert program.to program.show_names program.check_names program.convert_names program.to_names words) none
