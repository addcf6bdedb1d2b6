-- The program's subcommands on words that `clap` does not refuse: each has its entries.
use Rattle.std.proofs.Common.{◌≡◌, ℕ, List, [], ◌∷◌, Bool, true, false, Some, ap, refl, sym, subst, ◌∙◌, codes, arith, inl, inr, length, slice_index}
use Rattle.std.specs.Prelude.{fold, if◌then◌else◌, not, map, ◌||◌, ◌⊎◌}
use Rattle.std.specs.List.{AllByRecursion, list_any}
use Rattle.std.specs.Str.{bytes_eq}
use Rattle.std.proofs.lemmas.Slice.Eq.{bytes_eq-Decides}
use Rattle.clap.proofs.WalkLemmas.{list_any-map}
use Rattle.clap.specs.declared.builder.value_parser.ValueParser.{ValueParser}
use Rattle.clap.specs.declared.builder.value_parser.ValueParser.TheVariants.{Names}
use Rattle.clap.specs.Faults.{level_fault, repeat_fault}
use Rattle.clap.specs.Kinds.{range_kinds, value_kinds}
use Rattle.clap.specs.Values.{refused_kind}
use Rattle.clap.specs.ValueTests.{accepts}
use Rattle.clap.specs.Simple.{Shape, built_leaf, help_rule, inherited, marked_built, new_app, on_top, with_index, with_leaf_noted, with_rule, filled}
use Rattle.clap.specs.Takes.{is_given}
use Rattle.clap.specs.Walk.{Row, Text, first_of, finished, nothing_held, has_row, reading_by, settled, walk, with_default}
use Rattle.program.specs.Program.{IsNames, canonical_names, from_option, hex_option, needed, program_app, rule_names, rules_option, to_option, with_input}
use Rattle.program.specs.CommandLine.{word_of_canonical, word_of_rule}
use Rattle.engine.specs.declared.rule.Rule.{Rule as ReadRule}
use Rattle.engine.specs.declared.rule.Rule.TheVariants.{Ber, Cer as ReadCer, Der as ReadDer}
use Rattle.engine.specs.Canonical.{Canonical}
use Rattle.engine.specs.Canonical.TheVariants.{Cer, Der}
use Rattle.program.specs.declared.command_line.Verb.{Verb}
use Rattle.program.specs.declared.command_line.Verb.TheVariants.{Convert}
use Rattle.program.proofs.WalkedLemmas.{Keeps, none_of}
use Rattle.program.proofs.RowLemmas.{AreFilled, FitDefaults, default_row, first_of_row, given_row, rows_stay, used_filled}
use Rattle.program.proofs.LevelLemmas.{checked, rows_filled}

-- the word is one of the rules to read by, of those to write by
abbrev pub IsRuleWord : Text → Type 0
IsRuleWord word = (rule : ReadRule) × (word ≡ word_of_rule rule)

abbrev pub IsCanonicalWord : Text → Type 0
IsCanonicalWord word = (rule : Canonical) × (word ≡ word_of_canonical rule)

-- the rows have a value of an argument that is as it must be
abbrev pub HasWord : (Text → Type 0) → List Row → Text → Type 0
HasWord Fits rows id = (word : Text) × (first_of id rows ≡ Some word) × Fits word

-- what each subcommand asks for, and what the one of a verb does
pub record HasInput (rows : List Row) : Type 0 where
  pub «module» : HasWord (λ _. Unit {0}) rows (codes "MODULE")
  pub name : HasWord (λ _. Unit {0}) rows (codes "TYPE")
  pub input : HasWord (λ _. Unit {0}) rows (codes "INPUT")
  pub from : HasWord IsRuleWord rows (codes "from")

pub record HasRowsOf (verb : Verb) (rows : List Row) : Type 0 where
  pub input : HasInput rows
  pub to : verb ≡ Convert → HasWord IsCanonicalWord rows (codes "to")

-- the value of a rule to read by passes the one parser, that of a rule to write by the other
abbrev Passes : ValueParser → ValueParser → Text → Text → Type 0
Passes from to id value = (id ≡ codes "from" → accepts false from value ≡ true) × (id ≡ codes "to" → accepts false to value ≡ true)

first_letter : (a b : Text) → a ≡ b → slice_index a 0 ≡ slice_index b 0
first_letter a b e = ap (λ x. slice_index x 0) e

accepted : (p : ValueParser) (v : Text) → value_kinds false p v ≡ [] → accepts false p v ≡ true
accepted p v f = go (accepts false p v) f
  where
    go : (b : Bool) → (if b then [] else refused_kind p ∷ []) ≡ [] → b ≡ true
    go true f = refl
    go false f = absurd (cc f)

module _ (from to : ValueParser) where
  abbrev Fits : Text → Text → Type 0
  Fits = Passes from to

  -- an argument of another name
  passes_other : (id value : Text) (n : ℕ) → slice_index id 0 ≡ n → (n ≡ 102 → ⊥) → (n ≡ 116 → ⊥) → Fits id value
  passes_other id value n is no_from no_to =
      (λ e. absurd (no_from (sym is ∙ first_letter id (codes "from") e)), λ e. absurd (no_to (sym is ∙ first_letter id (codes "to") e)))

  passes_from : (value : Text) → accepts false from value ≡ true → Fits (codes "from") value
  passes_from value h = (λ _. h, λ e. let bad : 102 ≡ 116 = first_letter (codes "from") (codes "to") e in absurd (omega arith))

  passes_to : (value : Text) → accepts false to value ≡ true → Fits (codes "to") value
  passes_to value h = (λ e. let bad : 116 ≡ 102 = first_letter (codes "to") (codes "from") e in absurd (omega arith), λ _. h)

  needed_keeps : (id : Text) (i : ℕ) → ((value : Text) → Fits id value) → Keeps (AreFilled Fits) (with_index i (filled (needed id)))
  needed_keeps id i fit again [] rows f h = absurd (cc f)
  needed_keeps id i fit again (v ∷ vs) rows f h = used_filled Fits id (reading_by (with_index i (filled (needed id)))) (v ∷ vs) rows (v, refl, fit v) h

  option_keeps : (id : Text) (i : ℕ) (p : ValueParser) → ((value : Text) → accepts false p value ≡ true → Fits id value) → Keeps (AreFilled Fits) (with_index i (filled (rules_option id p)))
  option_keeps id i p fit again [] rows f h = absurd (cc f)
  option_keeps id i p fit again (v ∷ vs) rows f h =
      let uses = none_of (range_kinds 1 1 (length (v ∷ vs))) _ f in
      let values = none_of (repeat_fault again id rows) _ uses.1 in
      let value = none_of (value_kinds false p v) _ values.1 in
      used_filled Fits id (reading_by (with_index i (filled (rules_option id p)))) (v ∷ vs) rows (v, refl, fit v (accepted p v value.0)) h

  flag_keeps : (i : ℕ) → Keeps (AreFilled Fits) (with_index i (filled hex_option))
  flag_keeps i again [] rows f h =
      used_filled Fits (codes "hex") (reading_by (with_index i (filled hex_option))) (codes "true" ∷ []) rows
      (codes "true", refl, passes_other (codes "hex") (codes "true") 104 refl (λ e. absurd (omega (arith, e))) (λ e. absurd (omega (arith, e)))) h
  flag_keeps i again (v ∷ vs) rows f h =
      used_filled Fits (codes "hex") (reading_by (with_index i (filled hex_option))) (v ∷ vs) rows
      (v, refl, passes_other (codes "hex") v 104 refl (λ e. absurd (omega (arith, e))) (λ e. absurd (omega (arith, e)))) h

-- a word that passes the parser of some names is one of them
among : (texts : List (List ℕ)) (p : ValueParser) (word : List ℕ) → IsNames texts p → accepts false p word ≡ true → list_any (λ name. bytes_eq name word) texts ≡ true
among texts (Names names) word is h =
    let there : list_any (λ name. bytes_eq name word) (map (λ name. name.now) names.now) ≡ true = sym (list_any-map (λ name. bytes_eq name word) (λ name. name.now) names.now) ∙ h in
    subst (λ some. list_any (λ name. bytes_eq name word) some ≡ true) is there
among texts _ word is h = absurd is

-- of two tests that one of holds, the first or the second
one_holds : (b c : Bool) → (b || c) ≡ true → (b ≡ true) ⊎ (c ≡ true)
one_holds true c h = inl refl
one_holds false c h = inr h

is_word : (name word : List ℕ) → bytes_eq name word ≡ true → word ≡ name
is_word name word h = sym ((bytes_eq-Decides name word).0 h)

last_word : (name word : List ℕ) → (bytes_eq name word || false) ≡ true → word ≡ name
last_word name word h = elim (one_holds (bytes_eq name word) false h) [ inl e ↦ is_word name word e | inr e ↦ absurd (cc e) ]

canonical_word : (p : ValueParser) (word : List ℕ) → IsNames canonical_names p → accepts false p word ≡ true → IsCanonicalWord word
canonical_word p word names h =
    elim (one_holds (bytes_eq (codes "cer") word) _ (among canonical_names p word names h)) [
      | inl e ↦ (Cer, is_word (codes "cer") word e)
      | inr rest ↦ (Der, last_word (codes "der") word rest)
    ]

rule_word : (p : ValueParser) (word : List ℕ) → IsNames rule_names p → accepts false p word ≡ true → IsRuleWord word
rule_word p word names h =
    elim (one_holds (bytes_eq (codes "ber") word) _ (among rule_names p word names h)) [
      | inl e ↦ (Ber, is_word (codes "ber") word e)
      | inr more ↦ elim (one_holds (bytes_eq (codes "cer") word) _ more) [
        | inl e ↦ (ReadCer, is_word (codes "cer") word e)
        | inr rest ↦ (ReadDer, last_word (codes "der") word rest)
      ]
    ]

ber_passes : (p : ValueParser) → IsNames rule_names p → accepts false p (codes "ber") ≡ true
ber_passes (Names names) is =
    list_any-map (λ name. bytes_eq name (codes "ber")) (λ name. name.now) names.now ∙ ap (list_any (λ name. bytes_eq name (codes "ber"))) is
ber_passes _ is = absurd is

-- the program's command while its subcommands take its settings
abbrev above : ValueParser → ValueParser → ValueParser → ValueParser → Shape
above show check convert to = (on_top with_leaf_noted (on_top marked_built (program_app show check convert to))).top

both_given : (b c : Bool) → (not b || c) ≡ false → (b ≡ true) × (c ≡ false)
both_given true c h = (refl, h)
both_given false c h = absurd (cc h)

module _ (show check convert to : ValueParser) where
  -- a subcommand that reads an input
  abbrev pub input_shape : Text → ValueParser → Shape
  input_shape name from = built_leaf (inherited (above show check convert to) (with_input from (new_app name)).top)

  -- and the one that writes by a rule
  abbrev pub convert_shape : Shape
  convert_shape = built_leaf (inherited (above show check convert to) (with_rule (with_input convert (new_app (codes "convert"))) (to_option to)).top)

  abbrev pub rows_at_end : Shape → List Text → List Row
  rows_at_end s words = finished s.rules (walk s.rules [] nothing_held words).held

  other : (id value : Text) (n : ℕ) → slice_index id 0 ≡ n → (n ≡ 102 → ⊥) → (n ≡ 116 → ⊥) → (from : ValueParser) → Passes from to id value
  other id value n is no_from no_to from = passes_other from to id value n is no_from no_to

  module_passes : (from : ValueParser) (value : Text) → Passes from to (codes "MODULE") value
  module_passes from value = passes_other from to (codes "MODULE") value 77 refl (λ e. absurd (omega (arith, e))) (λ e. absurd (omega (arith, e)))

  type_passes : (from : ValueParser) (value : Text) → Passes from to (codes "TYPE") value
  type_passes from value = passes_other from to (codes "TYPE") value 84 refl (λ e. absurd (omega (arith, e))) (λ e. absurd (omega (arith, e)))

  input_passes : (from : ValueParser) (value : Text) → Passes from to (codes "INPUT") value
  input_passes from value = passes_other from to (codes "INPUT") value 73 refl (λ e. absurd (omega (arith, e))) (λ e. absurd (omega (arith, e)))

  hex_passes : (from : ValueParser) (value : Text) → Passes from to (codes "hex") value
  hex_passes from value = passes_other from to (codes "hex") value 104 refl (λ e. absurd (omega (arith, e))) (λ e. absurd (omega (arith, e)))

  input_keeps : (name : Text) (from : ValueParser) → AllByRecursion (Keeps (AreFilled (Passes from to))) (input_shape name from).rules
  input_keeps name from = (
    needed_keeps from to (codes "MODULE") 1 (module_passes from),
    (
      needed_keeps from to (codes "TYPE") 2 (type_passes from),
      (
        needed_keeps from to (codes "INPUT") 3 (input_passes from),
        (option_keeps from to (codes "from") 4 from (passes_from from to), (flag_keeps from to 4, ((λ again values rows f h. h), tt))),
      ),
    ),
  )

  convert_keeps : AllByRecursion (Keeps (AreFilled (Passes convert to))) convert_shape.rules
  convert_keeps = (
    needed_keeps convert to (codes "MODULE") 1 (module_passes convert),
    (
      needed_keeps convert to (codes "TYPE") 2 (type_passes convert),
      (
        needed_keeps convert to (codes "INPUT") 3 (input_passes convert),
        (
          option_keeps convert to (codes "from") 4 convert (passes_from convert to),
          (flag_keeps convert to 4, (option_keeps convert to (codes "to") 4 to (passes_to convert to), ((λ again values rows f h. h), tt))),
        ),
      ),
    ),
  )

  input_defaults : (name : Text) (from : ValueParser) → IsNames rule_names from → AllByRecursion (λ a. FitDefaults (Passes from to) a.id a.defaults) (input_shape name from).rules
  input_defaults name from names = (tt, (tt, (tt, (passes_from from to (codes "ber") (ber_passes from names), (hex_passes from (codes "false"), (tt, tt))))))

  convert_defaults : IsNames rule_names convert → AllByRecursion (λ a. FitDefaults (Passes convert to) a.id a.defaults) convert_shape.rules
  convert_defaults names = (tt, (tt, (tt, (passes_from convert to (codes "ber") (ber_passes convert names), (hex_passes convert (codes "false"), (tt, (tt, tt)))))))

  needed_word : (from : ValueParser) (rows : List Row) (id : Text) → AreFilled (Passes from to) rows → is_given id rows ≡ true → HasWord (λ _. Unit {0}) rows id
  needed_word from rows id filled given =
      let found = first_of_row (Passes from to) id rows filled (given_row id rows given) in
      (found.0, found.1, tt)

  from_word : (from : ValueParser) (rows : List Row) → IsNames rule_names from → AreFilled (Passes from to) rows → has_row (codes "from") rows ≡ true → HasWord IsRuleWord rows (codes "from")
  from_word from rows names filled has =
      let found = first_of_row (Passes from to) (codes "from") rows filled has in
      (found.0, found.1, rule_word from found.0 names (found.2.0 refl))

  to_word : (from : ValueParser) (rows : List Row) → IsNames canonical_names to → AreFilled (Passes from to) rows → is_given (codes "to") rows ≡ true → HasWord IsCanonicalWord rows (codes "to")
  to_word from rows names filled given =
      let found = first_of_row (Passes from to) (codes "to") rows filled (given_row (codes "to") rows given) in
      (found.0, found.1, canonical_word to found.0 names (found.2.1 refl))

  input_from : (name : Text) (from : ValueParser) (rows : List Row) → has_row (codes "from") (fold with_default rows (input_shape name from).rules) ≡ true
  input_from name from rows =
      let before = with_default (with_default (with_default rows (with_index 1 (filled (needed (codes "MODULE"))))) (with_index 2 (filled (needed (codes "TYPE"))))) (with_index 3 (filled (needed (codes "INPUT")))) in
      let option = with_index 4 (filled (from_option from)) in
      rows_stay (codes "from") (with_index 4 (filled hex_option) ∷ with_index 4 (filled help_rule) ∷ []) (with_default before option) (default_row option before refl)

  convert_from : (rows : List Row) → has_row (codes "from") (fold with_default rows convert_shape.rules) ≡ true
  convert_from rows =
      let before = with_default (with_default (with_default rows (with_index 1 (filled (needed (codes "MODULE"))))) (with_index 2 (filled (needed (codes "TYPE"))))) (with_index 3 (filled (needed (codes "INPUT")))) in
      let option = with_index 4 (filled (from_option convert)) in
      rows_stay (codes "from") (with_index 4 (filled hex_option) ∷ with_index 4 (filled (to_option to)) ∷ with_index 4 (filled help_rule) ∷ []) (with_default before option) (default_row option before refl)

  pub input_entries : (name : Text) (from : ValueParser) (words : List Text) → IsNames rule_names from → level_fault (input_shape name from) [] nothing_held words false [] ≡ []
      → HasInput (rows_at_end (input_shape name from) words)
  input_entries name from words names none =
      let s = input_shape name from in
      let rows = rows_at_end s words in
      let filled = rows_filled s [] words false [] none (Passes from to) (input_keeps name from) (input_defaults name from names) in
      let module_given = both_given (is_given (codes "MODULE") rows) _ (checked s [] words false [] none).arguments in
      let type_given = both_given (is_given (codes "TYPE") rows) _ module_given.1 in
      let input_given = both_given (is_given (codes "INPUT") rows) _ type_given.1 in
      record {
        «module» = needed_word from rows (codes "MODULE") filled module_given.0;
        name = needed_word from rows (codes "TYPE") filled type_given.0;
        input = needed_word from rows (codes "INPUT") filled input_given.0;
        from = from_word from rows names filled (input_from name from (settled s.rules (walk s.rules [] nothing_held words).held).rows);
      }

  pub convert_entries : (words : List Text) → IsNames rule_names convert → IsNames canonical_names to → level_fault convert_shape [] nothing_held words false [] ≡ []
      → HasInput (rows_at_end convert_shape words) × HasWord IsCanonicalWord (rows_at_end convert_shape words) (codes "to")
  convert_entries words names to_names none =
      let s = convert_shape in
      let rows = rows_at_end s words in
      let filled = rows_filled s [] words false [] none (Passes convert to) convert_keeps (convert_defaults names) in
      let module_given = both_given (is_given (codes "MODULE") rows) _ (checked s [] words false [] none).arguments in
      let type_given = both_given (is_given (codes "TYPE") rows) _ module_given.1 in
      let input_given = both_given (is_given (codes "INPUT") rows) _ type_given.1 in
      let to_given = both_given (is_given (codes "to") rows) _ input_given.1 in (
        record {
          «module» = needed_word convert rows (codes "MODULE") filled module_given.0;
          name = needed_word convert rows (codes "TYPE") filled type_given.0;
          input = needed_word convert rows (codes "INPUT") filled input_given.0;
          from = from_word convert rows names filled (convert_from (settled s.rules (walk s.rules [] nothing_held words).held).rows);
        },
        to_word convert rows to_names filled to_given.0,
      )
