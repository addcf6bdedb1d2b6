-- One level of a parse that `clap` does not refuse.
use Rattle.std.proofs.Common.{◌≡◌, ℕ, List, [], ◌∷◌, Bool, true, false, Option, Some, None, refl, codes}
use Rattle.std.specs.Prelude.{fold, if◌then◌else◌, not, is_some, ◌&&◌}
use Rattle.std.specs.List.{AllByRecursion, list_any}
use Rattle.std.specs.Str.{bytes_eq}
use Rattle.clap.specs.declared.error.kind.ErrorKind.TheVariants.{DisplayHelp, InvalidSubcommand}
use Rattle.clap.specs.Facts.{explicit_source}
use Rattle.clap.specs.Faults.{check_fault, defaults_fault, level_fault, other_fault, settle_fault, step_fault, turn_fault, walk_fault, word_fault}
use Rattle.clap.specs.Kinds.{Kinds, check_kinds, or_else}
use Rattle.clap.specs.Simple.{Shape}
use Rattle.clap.specs.Takes.{is_given}
use Rattle.clap.specs.Lexer.{long_of, short_of}
use Rattle.clap.specs.Walk.{Held, Names, Outcome, Row, Rule, Step, Text, Waiting, Walk, after_flag, after_step, arg_by_index, bundle, done, finished, idle, long_met, long_or_other, arg_by_long, next, nothing_held, option, plain, plain_word, positional, refused, settled, short_or_plain, subcommand, subcommand_met, subcommand_or_other, to_positional, trailing, value, waits, walk, walk_from, walked, walked_from, word_met}
use Rattle.program.proofs.WalkedLemmas.{Keeps, none_of, settled_keeps, walk_keeps}
use Rattle.program.proofs.RowLemmas.{AreFilled, FitDefaults, defaults_filled}

no_check : (help wanted argument : Bool) → check_kinds help wanted argument ≡ [] → (wanted ≡ false) × (argument ≡ false)
no_check true wanted argument f = absurd (cc f)
no_check false true argument f = absurd (cc f)
no_check false false true f = absurd (cc f)
no_check false false false f = (refl, refl)

-- what a level that is not refused has checked
pub record IsChecked (s : Shape) (rows : List Row) (has : Bool) : Type 0 where
  pub subcommand : (not has && s.subcommand_required) ≡ false
  pub arguments : (not (s.subcommand_negates_reqs && has) && list_any (λ a. a.required && not (is_given a.id rows)) s.rules) ≡ false

checked_of : (s : Shape) (rows : List Row) (has : Bool) → check_fault s rows has ≡ [] → IsChecked s rows has
checked_of s rows has f =
    let none = no_check (not has && (s.arg_required_else_help && not (list_any (λ r. explicit_source r.source) rows))) (not has && s.subcommand_required)
    (not (s.subcommand_negates_reqs && has) && list_any (λ a. a.required && not (is_given a.id rows)) s.rules) f in
    record { subcommand = none.0; arguments = none.1 }

module _ (s : Shape) (names : Names) (words : List Text) (has : Bool) (below : Kinds) (none : level_fault s names nothing_held words has below ≡ []) where
  abbrev end : Held
  end = (walk s.rules names nothing_held words).held

  first_none : (walk_fault s names (walk_from nothing_held) words ≡ []) × (or_else below (or_else (settle_fault s.rules s.args_override_self end)
      (or_else (defaults_fault (settled s.rules end).rows s.rules) (check_fault s (finished s.rules end) has))) ≡ [])
  first_none = none_of (walk_fault s names (walk_from nothing_held) words) _ none

  pub walk_none : walk_fault s names (walk_from nothing_held) words ≡ []
  walk_none = first_none.0

  pub below_none : below ≡ []
  below_none = (none_of below _ first_none.1).0

  last_none : (settle_fault s.rules s.args_override_self end ≡ []) × (or_else (defaults_fault (settled s.rules end).rows s.rules) (check_fault s (finished s.rules end) has) ≡ [])
  last_none = none_of (settle_fault s.rules s.args_override_self end) _ (none_of below _ first_none.1).1

  pub checked : IsChecked s (finished s.rules end) has
  checked = checked_of s (finished s.rules end) has (none_of (defaults_fault (settled s.rules end).rows s.rules) _ last_none.1).1

  pub rows_filled : (Passes : Text → Text → Type 0) → AllByRecursion (Keeps (AreFilled Passes)) s.rules → AllByRecursion (λ a. FitDefaults Passes a.id a.defaults) s.rules
      → AreFilled Passes (finished s.rules end)
  rows_filled Passes uses defaults =
      let walked = walk_keeps (AreFilled Passes) s uses names words (walk_from nothing_held) walk_none tt in
      defaults_filled Passes s.rules (settled s.rules end).rows defaults (settled_keeps (AreFilled Passes) s.rules uses s.args_override_self end last_none.0 walked)

-- the subcommand `help` is not met: clap refuses it
abbrev IsOtherThanHelp : Text → Type 0
IsOtherThanHelp name = bytes_eq name (codes "help") ≡ false

abbrev pub StopsElsewhere : Option (Text × List Text) → Type 0
StopsElsewhere None = Unit {0}
StopsElsewhere (Some p) = IsOtherThanHelp p.0

abbrev StepsElsewhere : Step → Type 0
StepsElsewhere (subcommand name) = IsOtherThanHelp name
StepsElsewhere _ = Unit {0}

module _ (c : List Rule) where
  plain_elsewhere : (waiting : Waiting) (word : Text) (x : Held) → StepsElsewhere (plain_word c waiting word x).1
  plain_elsewhere idle word x = tt
  plain_elsewhere positional word x = tt
  plain_elsewhere (option id) word x = tt

  flag_elsewhere : (waiting : Waiting) (word : Text) (x : Held) (o : Outcome) → StepsElsewhere (after_flag c waiting word x o).1
  flag_elsewhere waiting word x done = tt
  flag_elsewhere waiting word x (waits id) = tt
  flag_elsewhere waiting word x plain = plain_elsewhere waiting word x
  flag_elsewhere waiting word x refused = plain_elsewhere waiting word x

  short_elsewhere : (waiting : Waiting) (word : Text) (o : Option Text) (x : Held) → StepsElsewhere (short_or_plain c waiting word o x).1
  short_elsewhere waiting word None x = plain_elsewhere waiting word x
  short_elsewhere waiting word (Some flags) x = flag_elsewhere waiting word (bundle c flags x).0 (bundle c flags x).1

  long_elsewhere : (waiting : Waiting) (word : Text) (o : Option (Text × Option Text)) (x : Held) → StepsElsewhere (long_or_other c waiting word o x).1
  long_elsewhere waiting word None x = short_elsewhere waiting word (short_of word) x
  long_elsewhere waiting word (Some p) x = flag_elsewhere waiting word (long_met c (arg_by_long c p.0) p.1 x).0 (long_met c (arg_by_long c p.0) p.1 x).1

module _ (s : Shape) (open_to_help : s.disable_help_subcommand ≡ false) (names : Names) where
  other_elsewhere : (o : Option Text) (waiting : Waiting) (position : ℕ) (word : Text) (x : Held) → other_fault s o word x ≡ []
      → StepsElsewhere (subcommand_or_other s.rules o waiting position word x).1
  other_elsewhere (Some name) waiting position word x f = go (bytes_eq name (codes "help")) s.disable_help_subcommand open_to_help f
    where
      go : (b disabled : Bool) → disabled ≡ false → (if b && not disabled then DisplayHelp ∷ InvalidSubcommand ∷ [] else []) ≡ [] → b ≡ false
      go false disabled is f = refl
      go true true is f = is
      go true false is f = absurd (cc f)
  other_elsewhere None waiting position word x f = go (bytes_eq word (45 ∷ 45 ∷ []))
    where
      go : (b : Bool) → StepsElsewhere (if b then (x, trailing position) else long_or_other s.rules waiting word (long_of word) x).1
      go true = tt
      go false = long_elsewhere s.rules waiting word (long_of word) x

  word_elsewhere : (is_trailing : Bool) (waiting : Waiting) (position : ℕ) (word : Text) (x : Held) → word_fault s names is_trailing waiting word x ≡ []
      → StepsElsewhere (word_met s.rules names is_trailing waiting position word x).1
  word_elsewhere true waiting position word x f = tt
  word_elsewhere false waiting position word x f = other_elsewhere (subcommand_met names waiting word) waiting position word x f

  step_elsewhere : (word : Text) (w : Walk) (x : Held) (step : Step) → StepsElsewhere step → StopsElsewhere w.stopped → StopsElsewhere (after_step s.rules word w x step).stopped
  step_elsewhere word w x (next waiting) there h = h
  step_elsewhere word w x (trailing position) there h = h
  step_elsewhere word w x (subcommand name) there h = there
  step_elsewhere word w x value there h = go (arg_by_index s.rules w.position)
    where
      go : (o : Option Rule) → StopsElsewhere (to_positional s.rules o word w x).stopped
      go None = h
      go (Some a) = tt

  turn_elsewhere : (o : Option (Text × List Text)) (w : Walk) (word : Text)
      → (if is_some o then [] else or_else (word_fault s names w.is_trailing w.waiting word w.held)
      (step_fault s w.position (word_met s.rules names w.is_trailing w.waiting w.position word w.held).0 (word_met s.rules names w.is_trailing w.waiting w.position word w.held).1)) ≡ []
      → StopsElsewhere o → StopsElsewhere w.stopped → StopsElsewhere (walked_from s.rules names o w word).stopped
  turn_elsewhere (Some p) w word f there h = there
  turn_elsewhere None w word f there h =
      let met = word_met s.rules names w.is_trailing w.waiting w.position word w.held in
      let none = none_of (word_fault s names w.is_trailing w.waiting word w.held) _ f in
      step_elsewhere word w met.0 met.1 (word_elsewhere w.is_trailing w.waiting w.position word w.held none.0) h

  pub walk_elsewhere : (words : List Text) (w : Walk) → walk_fault s names w words ≡ [] → StopsElsewhere w.stopped → StopsElsewhere (fold (walked s.rules names) w words).stopped
  unfolding walk_fault walked
  walk_elsewhere [] w f h = h
  walk_elsewhere (word ∷ words) w f h =
      let none = none_of (turn_fault s names w word) _ f in
      walk_elsewhere words (walked_from s.rules names w.stopped w word) none.1 (turn_elsewhere w.stopped w word none.0 h h)
