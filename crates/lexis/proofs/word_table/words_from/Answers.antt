use Rattle.std.proofs.Common.{◌≡◌, sym, subst, List, ℕ}
use Rattle.std.specs.List.{Contains, slice_range}
use Rattle.lexis.specs.declared.word.Word.{Word}
use Rattle.lexis.specs.WordTable.{words_range}
use Rattle.lexis.specs.AllWords.{all_words}
use Rattle.lexis.proofs.WordLemmas.{word_among, words_with}
use Rattle.lexis.proofs.word_table.words_from.Goals as goal

-- the words between these places of the table are those with the letter
among : (w : Word) (initial from to : ℕ) (table : List Word) → from ≡ (words_range initial).0 → to ≡ (words_range initial).1 → table ≡ all_words → Contains (words_with initial) w → Contains (slice_range table from to) w
among w initial from to table e f g h =
    subst (λ (t : List Word). Contains (slice_range t from to) w) (sym g)
    (subst (λ (i : ℕ). Contains (slice_range all_words i to) w) (sym e)
    (subst (λ (i : ℕ). Contains (slice_range all_words (words_range initial).0 i) w) (sym f) h))

pub returns : goal.returns
returns c = λ w e. among w c.args.initial c.words_range-from.result.0 c.words_range-from.result.1 c.all_words.result.now c.words_range-from.ensures.from c.words_range-from.ensures.to c.all_words.ensures (subst (λ (i : ℕ). Contains (words_with i) w) e (word_among w))
