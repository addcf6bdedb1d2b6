-- The rows of a walk that `clap` does not refuse: what each use keeps, the walk keeps.
use Rattle.std.proofs.Common.{refl, ◌≡◌, ℕ, zero, suc, List, [], ◌∷◌, Bool, true, false, Option, Some, None, length, drop, encode_utf8}
use Rattle.std.specs.Prelude.{find, fold, if◌then◌else◌, is_some, slice_get, ◌&&◌, IfSome}
use Rattle.std.specs.Option.{option_map_or}
use Rattle.std.specs.List.{AllByRecursion}
use Rattle.std.specs.Str.{bytes_eq, chars}
use Rattle.clap.specs.declared.error.kind.ErrorKind.TheVariants.{TooManyValues}
use Rattle.clap.specs.Kinds.{Kinds, or_else}
use Rattle.clap.specs.Faults.{bundle_fault, bundle_step_fault, flag_word_fault, flags_fault, long_fault, option_fault, other_fault, positional_fault, react_fault, settle_fault, short_fault, step_fault, stray_fault, turn_fault, use_fault, walk_fault, word_fault}
use Rattle.clap.specs.Lexer.{long_of, short_of}
use Rattle.clap.specs.Simple.{Shape}
use Rattle.clap.specs.Walk.{Held, Names, Outcome, Row, Rule, Step, Text, Waiting, Walk, after_flag, after_step, arg_by_id, arg_by_index, arg_by_long, arg_by_short, attached_value, bundle, bundle_met, bundle_step, done, flag_met, idle, is_pending, long_met, long_or_other, next, option, option_met, option_word, plain, plain_word, positional, positional_held, reacted, refused, settled, settled_rows, short_met, short_or_plain, subcommand, subcommand_met, subcommand_or_other, takes_several, takes_values, to_positional, trailing, used, used_by_id, value, waits, walked, walked_from, word_met}

-- of two lists of kinds that come to none, neither has one
pub none_of : (a b : Kinds) → or_else a b ≡ [] → (a ≡ []) × (b ≡ [])
none_of [] b h = (refl, h)
none_of (k ∷ ks) b h = absurd (cc h)

pub found_of_all : {A : Type 0} (P : A → Type 0) (p : A → Bool) (xs : List A) → AllByRecursion P xs → IfSome (find p xs) P
found_of_all P p [] all = tt
found_of_all P p (x ∷ xs) all = go (p x) (found_of_all P p xs all.1)
  where
    go : (b : Bool) → IfSome (find p xs) P → IfSome (if b then Some x else find p xs) P
    go true rest = all.0
    go false rest = rest

module _ (Holds : List Row → Type 0) where
  -- a use of the argument that is not refused keeps what holds of the rows
  abbrev pub Keeps : Rule → Type 0
  Keeps a = (again : Bool) (values : List Text) (rows : List Row) → use_fault again a values rows ≡ [] → Holds rows → Holds (used a values rows)

  module _ (c : List Rule) (all : AllByRecursion Keeps c) (again : Bool) where
    by_id : (o : Option Rule) (values : List Text) (rows : List Row) → IfSome o Keeps → option_map_or (λ a. use_fault again a values rows) o [] ≡ [] → Holds rows
        → Holds (used_by_id o values rows)
    by_id None values rows k f h = h
    by_id (Some a) values rows k f h = k again values rows f h

    by_pending : (p : Option (Text × List Text)) (rows : List Row)
        → option_map_or (λ p. option_map_or (λ a. use_fault again a p.1 rows) (arg_by_id c p.0) []) p [] ≡ [] → Holds rows → Holds (settled_rows c p rows)
    by_pending None rows f h = h
    by_pending (Some p) rows f h = by_id (arg_by_id c p.0) p.1 rows (found_of_all Keeps (λ a. bytes_eq a.id p.0) c all) f h

    pub settled_keeps : (x : Held) → settle_fault c again x ≡ [] → Holds x.rows → Holds (settled c x).rows
    settled_keeps x f h = by_pending x.pending x.rows f h

    reacted_keeps : (a : Rule) → Keeps a → (values : List Text) (x : Held) → react_fault c again a values x ≡ [] → Holds x.rows → Holds (reacted c a values x).rows
    reacted_keeps a k values x f h =
        let none = none_of (settle_fault c again x) _ f in
        k again values (settled c x).rows none.1 (settled_keeps x none.0 h)

    option_keeps : (a : Rule) → Keeps a → (v : Option Text) (x : Held) → option_fault c again a v x ≡ [] → Holds x.rows → Holds (option_met c a v x).0.rows
    option_keeps a k (Some v) x f h = reacted_keeps a k (v ∷ []) x f h
    option_keeps a k None x f h = settled_keeps x f h

    flag_keeps : (a : Rule) → Keeps a → (v : Option Text) (x : Held) → (if is_some v then TooManyValues ∷ [] else react_fault c again a [] x) ≡ [] → Holds x.rows
        → Holds (flag_met c a v x).0.rows
    flag_keeps a k (Some v) x f h = h
    flag_keeps a k None x f h = reacted_keeps a k [] x f h

    long_keeps : (o : Option Rule) → IfSome o Keeps → (v : Option Text) (x : Held) → long_fault c again o v x ≡ [] → Holds x.rows → Holds (long_met c o v x).0.rows
    long_keeps None k v x f h = h
    long_keeps (Some a) k v x f h = go (takes_values a) f
      where
        go : (b : Bool) → (if b then option_fault c again a v x else (if is_some v then TooManyValues ∷ [] else react_fault c again a [] x)) ≡ []
            → Holds (if b then option_met c a v x else flag_met c a v x).0.rows
        go true f = option_keeps a k v x f h
        go false f = flag_keeps a k v x f h

    short_keeps : (o : Option Rule) → IfSome o Keeps → (rest : Text) (x : Held) (kinds : Held → Kinds) (met : Held → Held × Outcome)
        → ((y : Held) → kinds y ≡ [] → Holds y.rows → Holds (met y).0.rows)
        → short_fault c again o rest x kinds ≡ [] → Holds x.rows → Holds (short_met c o rest x met).0.rows
    short_keeps None k rest x kinds met more f h = h
    short_keeps (Some a) k rest x kinds met more f h = go (takes_values a) f
      where
        go : (b : Bool) → (if b then option_fault c again a (attached_value rest) x else or_else (react_fault c again a [] x) (kinds (reacted c a [] x))) ≡ []
            → Holds (if b then option_met c a (attached_value rest) x else met (reacted c a [] x)).0.rows
        go true f = option_keeps a k (attached_value rest) x f h
        go false f =
            let none = none_of (react_fault c again a [] x) _ f in
            more (reacted c a [] x) none.1 (reacted_keeps a k [] x none.0 h)

    flag_step_keeps : (o : Option ℕ) (flags : Text) (skip : ℕ) (so_far : Outcome) (x : Held) (kinds : Text → ℕ → Held → Kinds) (met : Text → ℕ → Outcome → Held → Held × Outcome)
        → ((rest : Text) (less : ℕ) (before : Outcome) (y : Held) → kinds rest less y ≡ [] → Holds y.rows → Holds (met rest less before y).0.rows)
        → bundle_step_fault c again o flags skip x kinds ≡ [] → Holds x.rows → Holds (bundle_step c o flags skip so_far x met).0.rows
    flag_step_keeps None flags skip so_far x kinds met more f h = h
    flag_step_keeps (Some n) flags zero so_far x kinds met more f h =
        let rest = drop (length (encode_utf8 n)) flags in
        short_keeps (arg_by_short c n) (found_of_all Keeps _ c all) rest x (kinds rest 0) (met rest 0 done) (λ y. more rest 0 done y) f h
    flag_step_keeps (Some n) flags (suc skip) so_far x kinds met more f h = more (drop (length (encode_utf8 n)) flags) skip so_far x f h

    flags_keep : (k : ℕ) (flags : Text) (skip : ℕ) (so_far : Outcome) (x : Held) → flags_fault c again k flags skip x ≡ [] → Holds x.rows → Holds (bundle_met c k flags skip so_far x).0.rows
    unfolding bundle_met flags_fault
    flags_keep zero flags skip so_far x f h = h
    flags_keep (suc k) flags skip so_far x f h =
        flag_step_keeps (slice_get (chars flags) 0) flags skip so_far x (flags_fault c again k) (bundle_met c k) (λ rest less before y. flags_keep k rest less before y) f h

    plain_keeps : (waiting : Waiting) (word : Text) (x : Held) → Holds x.rows → Holds (plain_word c waiting word x).0.rows
    plain_keeps idle word x h = h
    plain_keeps positional word x h = h
    plain_keeps (option id) word x h = go (arg_by_id c id)
      where
        go : (o : Option Rule) → Holds (option_word o id word x).0.rows
        go None = h
        go (Some a) = h

    after_flag_keeps : (waiting : Waiting) (word : Text) (x : Held) (o : Outcome) → Holds x.rows → Holds (after_flag c waiting word x o).0.rows
    after_flag_keeps waiting word x done h = h
    after_flag_keeps waiting word x (waits id) h = h
    after_flag_keeps waiting word x plain h = plain_keeps waiting word x h
    after_flag_keeps waiting word x refused h = plain_keeps waiting word x h

    short_word_keeps : (waiting : Waiting) (word : Text) (o : Option Text) (x : Held) → option_map_or (λ flags. bundle_fault c again flags x) o [] ≡ [] → Holds x.rows
        → Holds (short_or_plain c waiting word o x).0.rows
    short_word_keeps waiting word None x f h = plain_keeps waiting word x h
    short_word_keeps waiting word (Some flags) x f h =
        after_flag_keeps waiting word (bundle c flags x).0 (bundle c flags x).1 (flags_keep (length flags) flags x.skip plain (record x { skip = 0 }) f h)

    flag_word_keeps : (waiting : Waiting) (word : Text) (o : Option (Text × Option Text)) (x : Held) → flag_word_fault c again o word x ≡ [] → Holds x.rows
        → Holds (long_or_other c waiting word o x).0.rows
    flag_word_keeps waiting word None x f h = short_word_keeps waiting word (short_of word) x f h
    flag_word_keeps waiting word (Some p) x f h =
        let met = long_met c (arg_by_long c p.0) p.1 x in
        after_flag_keeps waiting word met.0 met.1 (long_keeps (arg_by_long c p.0) (found_of_all Keeps _ c all) p.1 x f h)

  module _ (s : Shape) (all : AllByRecursion Keeps s.rules) (names : Names) where
    other_keeps : (o : Option Text) (waiting : Waiting) (position : ℕ) (word : Text) (x : Held) → other_fault s o word x ≡ [] → Holds x.rows
        → Holds (subcommand_or_other s.rules o waiting position word x).0.rows
    other_keeps (Some name) waiting position word x f h = h
    other_keeps None waiting position word x f h = go (bytes_eq word (45 ∷ 45 ∷ [])) f
      where
        go : (b : Bool) → (if b then [] else flag_word_fault s.rules s.args_override_self (long_of word) word x) ≡ []
            → Holds (if b then (x, trailing position) else long_or_other s.rules waiting word (long_of word) x).0.rows
        go true f = h
        go false f = flag_word_keeps s.rules all s.args_override_self waiting word (long_of word) x f h

    word_keeps : (is_trailing : Bool) (waiting : Waiting) (position : ℕ) (word : Text) (x : Held) → word_fault s names is_trailing waiting word x ≡ [] → Holds x.rows
        → Holds (word_met s.rules names is_trailing waiting position word x).0.rows
    word_keeps true waiting position word x f h = h
    word_keeps false waiting position word x f h = other_keeps (subcommand_met names waiting word) waiting position word x f h

    positional_keeps : (a : Rule) (word : Text) (x : Held) → positional_fault s.rules s.args_override_self a x ≡ [] → Holds x.rows → Holds (positional_held s.rules a word x).rows
    positional_keeps a word x f h = go (is_pending a x.pending && takes_several a) f
      where
        go : (b : Bool) → (if b then [] else settle_fault s.rules s.args_override_self x) ≡ [] → Holds (if b then x else settled s.rules x).rows
        go true f = h
        go false f = settled_keeps s.rules all s.args_override_self x f h

    to_positional_keeps : (o : Option Rule) (word : Text) (w : Walk) (x : Held) → option_map_or (λ a. positional_fault s.rules s.args_override_self a x) o (stray_fault s) ≡ []
        → Holds x.rows → Holds (to_positional s.rules o word w x).held.rows
    to_positional_keeps None word w x f h = h
    to_positional_keeps (Some a) word w x f h = positional_keeps a word x f h

    step_keeps : (word : Text) (w : Walk) (x : Held) (step : Step) → step_fault s w.position x step ≡ [] → Holds x.rows → Holds (after_step s.rules word w x step).held.rows
    step_keeps word w x (next waiting) f h = h
    step_keeps word w x (trailing position) f h = h
    step_keeps word w x (subcommand name) f h = h
    step_keeps word w x value f h = to_positional_keeps (arg_by_index s.rules w.position) word w x f h

    turn_keeps : (o : Option (Text × List Text)) (w : Walk) (word : Text)
        → (if is_some o then [] else or_else (word_fault s names w.is_trailing w.waiting word w.held)
        (step_fault s w.position (word_met s.rules names w.is_trailing w.waiting w.position word w.held).0 (word_met s.rules names w.is_trailing w.waiting w.position word w.held).1)) ≡ []
        → Holds w.held.rows → Holds (walked_from s.rules names o w word).held.rows
    turn_keeps (Some p) w word f h = h
    turn_keeps None w word f h =
        let met = word_met s.rules names w.is_trailing w.waiting w.position word w.held in
        let none = none_of (word_fault s names w.is_trailing w.waiting word w.held) _ f in
        step_keeps word w met.0 met.1 none.1 (word_keeps w.is_trailing w.waiting w.position word w.held none.0 h)

    -- a walk that is not refused keeps what holds of the rows
    pub walk_keeps : (words : List Text) (w : Walk) → walk_fault s names w words ≡ [] → Holds w.held.rows → Holds (fold (walked s.rules names) w words).held.rows
    unfolding walk_fault walked
    walk_keeps [] w f h = h
    walk_keeps (word ∷ words) w f h =
        let none = none_of (turn_fault s names w word) _ f in
        walk_keeps words (walked_from s.rules names w.stopped w word) none.1 (turn_keeps w.stopped w word none.0 h)
