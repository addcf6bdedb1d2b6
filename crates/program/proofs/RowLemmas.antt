-- Rows of `clap` whose first values are as they must be.
use Rattle.std.proofs.Common.{◌≡◌, List, [], ◌∷◌, ◌++◌, Bool, true, false, Some, refl, subst, ◌||◌}
use Rattle.std.specs.Prelude.{fold, if◌then◌else◌, slice_get}
use Rattle.std.specs.List.{AllByRecursion}
use Rattle.std.specs.Str.{bytes_eq}
use Rattle.std.proofs.lemmas.Slice.Eq.{bytes_eq-Decides}
use Rattle.clap.specs.declared.parser.matches.ValueSource.{ValueSource}
use Rattle.clap.specs.declared.parser.matches.ValueSource.TheVariants.{CommandLine, DefaultValue}
use Rattle.clap.specs.declared.builder.value_parser.Reading.{Reading}
use Rattle.clap.specs.Takes.{is_given}
use Rattle.clap.specs.Walk.{Row, Rule, Text, default_rows, first_of, has_row, is_empty, more_values, reading_by, with_default, with_values, without}

-- a text is itself
pub same_text : (text : Text) → bytes_eq text text ≡ true
same_text text = (bytes_eq-Decides text text).1 refl

module _ (Passes : Text → Text → Type 0) where
  -- of these values of an argument there is a first one, and it is as it must be
  abbrev pub HasFirst : Text → List Text → Type 0
  HasFirst id values = (first : Text) × (slice_get values 0 ≡ Some first) × Passes id first

  -- so of those of each row
  abbrev pub AreFilled : List Row → Type 0
  AreFilled rows = AllByRecursion (λ r. HasFirst r.id r.values) rows

  more_filled : (id : Text) (old more : List Text) → HasFirst id old → HasFirst id (old ++ more)
  more_filled id [] more h = absurd (cc h.1)
  more_filled id (x ∷ xs) more h = h

  without_filled : (id : Text) (rows : List Row) → AreFilled rows → AreFilled (without id rows)
  without_filled id [] h = tt
  without_filled id (r ∷ rows) h = go (bytes_eq r.id id) (without_filled id rows h.1)
    where
      go : (b : Bool) → AreFilled (without id rows) → AreFilled (if b then [] ++ rows else r ∷ without id rows)
      go true rest = h.1
      go false rest = (h.0, rest)

  pub with_values_filled : (id : Text) (how : Reading) (s : ValueSource) (values : List Text) (rows : List Row) → HasFirst id values → AreFilled rows
      → AreFilled (with_values id how s values rows)
  with_values_filled id how s values [] first h = (first, tt)
  with_values_filled id how s values (r ∷ rows) first h = go (bytes_eq r.id id) (with_values_filled id how s values rows first h.1)
    where
      go : (b : Bool) → AreFilled (with_values id how s values rows) → AreFilled (if b then more_values s values r ++ rows else r ∷ with_values id how s values rows)
      go true rest = (more_filled r.id r.values values h.0, h.1)
      go false rest = (h.0, rest)

  -- one use in place of those before
  pub used_filled : (id : Text) (how : Reading) (values : List Text) (rows : List Row) → HasFirst id values → AreFilled rows
      → AreFilled (with_values id how CommandLine values (without id rows))
  used_filled id how values rows first h = with_values_filled id how CommandLine values (without id rows) first (without_filled id rows h)

  -- the first of some default values is as it must be
  abbrev pub FitDefaults : Text → List Text → Type 0
  FitDefaults id [] = Unit {0}
  FitDefaults id (v ∷ vs) = Passes id v

  default_filled : (a : Rule) (rows : List Row) → FitDefaults a.id a.defaults → AreFilled rows → AreFilled (with_default rows a)
  default_filled a rows fit h = go (has_row a.id rows)
    where
      rows_filled : (how : Reading) (values : List Text) → FitDefaults a.id values → AreFilled (default_rows a.id how values rows)
      rows_filled how [] fit = h
      rows_filled how (v ∷ vs) fit = with_values_filled a.id how DefaultValue (v ∷ vs) rows (v, refl, fit) h

      go : (b : Bool) → AreFilled (if b then rows else default_rows a.id (reading_by a) a.defaults rows)
      go true = h
      go false = rows_filled (reading_by a) a.defaults fit

  pub defaults_filled : (c : List Rule) (rows : List Row) → AllByRecursion (λ a. FitDefaults a.id a.defaults) c → AreFilled rows → AreFilled (fold with_default rows c)
  defaults_filled [] rows fit h = h
  defaults_filled (a ∷ c) rows fit h = defaults_filled c (with_default rows a) fit.1 (default_filled a rows fit.0 h)

  -- of an argument that has a row the first value is as it must be
  pub first_of_row : (id : Text) (rows : List Row) → AreFilled rows → has_row id rows ≡ true → (first : Text) × (first_of id rows ≡ Some first) × Passes id first
  first_of_row id [] h has = absurd (cc has)
  first_of_row id (r ∷ rows) h has = go (bytes_eq r.id id) refl has (λ rest. first_of_row id rows h.1 rest)
    where
      go : (b : Bool) → bytes_eq r.id id ≡ b → (b || has_row id rows) ≡ true → (has_row id rows ≡ true → (first : Text) × (first_of id rows ≡ Some first) × Passes id first)
          → (first : Text) × (first_of id (r ∷ rows) ≡ Some first) × Passes id first
      go true is has rest = (h.0.0, rw is h.0.1, subst (λ other. Passes other h.0.0) ((bytes_eq-Decides r.id id).0 is) h.0.2)
      go false is has rest =
          let found = rest has in
          (found.0, rw is found.1, found.2)

-- what was given has a row
pub given_row : (id : Text) (rows : List Row) → is_given id rows ≡ true → has_row id rows ≡ true
given_row id [] given = absurd (cc given)
given_row id (r ∷ rows) given = go (bytes_eq r.id id) refl (λ rest. given_row id rows rest)
  where
    go : (b : Bool) → bytes_eq r.id id ≡ b → (is_given id rows ≡ true → has_row id rows ≡ true) → has_row id (r ∷ rows) ≡ true
    go true is rest = rw is refl
    go false is rest =
        let there : is_given id rows ≡ true = rw is at given in
        rw is (rest there)

with_values_row : (id : Text) (how : Reading) (s : ValueSource) (values : List Text) (rows : List Row) → has_row id (with_values id how s values rows) ≡ true
with_values_row id how s values [] = rw (same_text id) refl
with_values_row id how s values (r ∷ rows) = go (bytes_eq r.id id) refl (with_values_row id how s values rows)
  where
    go : (b : Bool) → bytes_eq r.id id ≡ b → has_row id (with_values id how s values rows) ≡ true → has_row id (if b then more_values s values r ++ rows else r ∷ with_values id how s values rows) ≡ true
    go true is rest = rw is refl
    go false is rest = rw is rest

or_more : (b c d : Bool) → (c ≡ true → d ≡ true) → (b || c) ≡ true → (b || d) ≡ true
or_more true c d more h = refl
or_more false c d more h = more h

with_values_stays : (k id : Text) (how : Reading) (s : ValueSource) (values : List Text) (rows : List Row) → has_row k rows ≡ true → has_row k (with_values id how s values rows) ≡ true
with_values_stays k id how s values [] has = absurd (cc has)
with_values_stays k id how s values (r ∷ rows) has = go (bytes_eq r.id id) (λ rest. with_values_stays k id how s values rows rest)
  where
    go : (b : Bool) → (has_row k rows ≡ true → has_row k (with_values id how s values rows) ≡ true)
        → has_row k (if b then more_values s values r ++ rows else r ∷ with_values id how s values rows) ≡ true
    go true rest = has
    go false rest = or_more (bytes_eq r.id k) (has_row k rows) (has_row k (with_values id how s values rows)) rest has

-- an argument with a default value has a row behind its turn
pub default_row : (a : Rule) (rows : List Row) → is_empty a.defaults ≡ false → has_row a.id (with_default rows a) ≡ true
default_row a rows some = go (has_row a.id rows) refl
  where
    come : (values : List Text) → is_empty values ≡ false → has_row a.id (default_rows a.id (reading_by a) values rows) ≡ true
    come [] some = absurd (cc some)
    come (v ∷ vs) some = with_values_row a.id (reading_by a) DefaultValue (v ∷ vs) rows

    go : (b : Bool) → has_row a.id rows ≡ b → has_row a.id (if b then rows else default_rows a.id (reading_by a) a.defaults rows) ≡ true
    go true is = is
    go false is = come a.defaults some

row_stays : (k : Text) (a : Rule) (rows : List Row) → has_row k rows ≡ true → has_row k (with_default rows a) ≡ true
row_stays k a rows has = go (has_row a.id rows)
  where
    stay : (values : List Text) → has_row k (default_rows a.id (reading_by a) values rows) ≡ true
    stay [] = has
    stay (v ∷ vs) = with_values_stays k a.id (reading_by a) DefaultValue (v ∷ vs) rows has

    go : (b : Bool) → has_row k (if b then rows else default_rows a.id (reading_by a) a.defaults rows) ≡ true
    go true = has
    go false = stay a.defaults

-- and keeps it
pub rows_stay : (k : Text) (c : List Rule) (rows : List Row) → has_row k rows ≡ true → has_row k (fold with_default rows c) ≡ true
rows_stay k [] rows has = has
rows_stay k (a ∷ c) rows has = rows_stay k c (with_default rows a) (row_stays k a rows has)
