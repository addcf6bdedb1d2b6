use Rattle.std.proofs.Common.{◌≡◌, ◌≢◌, ◌∙◌, ◌+◌, sym, subst, Bool, true, false, ◌||◌, refl, eqb, eq-eqb, ℕ, get_or, cond, Some, arith}
use Rattle.std.proofs.lemmas.Bool.{false≢true}
use Rattle.std.proofs.lemmas.Bool.Decides.{nat_tests}
use Rattle.lexis.specs.Fronts.{AnswersString}
use Rattle.lexis.specs.Octets.{is_line_end}
use Rattle.lexis.proofs.StringLemmas.{GoesOn, IsBest, goes_mark, goes_other, goes_here, best_more, answers_stop, answers_end}
use Rattle.lexis.proofs.quoted.string_rest.Goals as goal
use Rattle.lexis.proofs.quoted.string_rest.Goals.{then-octet-eq34, else-octet-eq34+else-is_no_character}

no-mark : (c : ℕ) → c ≢ 34 → eqb c 34 ≡ false
no-mark c h = grind (arith, nat_tests)

second : (p q : Bool) → p || q ≡ true → p ≡ false → q ≡ true
second true q h e = absurd (false≢true (sym e))
second false q h e = h

neither : (p q : Bool) → p || q ≡ false → (p ≡ false) × (q ≡ false)
neither true q h = absurd (false≢true (sym h))
neither false q h = (refl, h)

pub returns-then-is_no_character : goal.returns-then-is_no_character
returns-then-is_no_character c =
    let x = c.args.octets.now in
    let at = c.loop-count.count in
    let half = c.loop-count.is_half in
    let stops = second half (is_line_end (get_or x at 0)) (sym c.is_no_character.ensures ∙ c.if-is_no_character.true) in
    subst (AnswersString x) (sym c.end_at-end.ensures)
    (answers_stop x at half c.loop-count.end c.loop-count-test.true (no-mark (get_or x at 0) c.if-octet-eq34.false) stops c.loop-count.invariant.goes_on c.loop-count.invariant.best)

pub loop-count-preserved : goal.loop-count-preserved
loop-count-preserved c =
    let x = c.args.octets.now in
    let at = c.loop-count.count in
    let half = c.loop-count.is_half in
    let so_far = c.loop-count.invariant.goes_on in
    let goes_on : GoesOn x (at + 1) c.if-octet-eq34.is_half = elim c.if-octet-eq34.branch [
      | then-octet-eq34 w ↦ subst (GoesOn x (at + 1)) (sym w.is_half-is) (goes_mark x at half c.loop-count-test.true (eq-eqb (get_or x at 0) 34 w.if-octet-eq34.true) so_far)
      | else-octet-eq34+else-is_no_character w ↦
          let rest = neither half (is_line_end (get_or x at 0)) (sym w.is_no_character.ensures ∙ w.if-is_no_character.false) in
          subst (GoesOn x (at + 1)) (sym (w.is_half-is ∙ rest.0)) (goes_other x at half c.loop-count-test.true (no-mark (get_or x at 0) w.if-octet-eq34.false) rest.0 rest.1 so_far)
    ] in
    record {
      goes_on = goes_on;
      best = subst (IsBest x (at + 1)) (sym c.end_at-end.ensures) (best_more x at half c.loop-count.end (goes_here x at half so_far) c.loop-count.invariant.best);
    }

pub returns : goal.returns
returns c =
    let x = c.args.octets.now in
    let whole = c.loop-count-test.false in
    subst (AnswersString x) (sym c.end_at.ensures)
    (subst (λ (i : ℕ). AnswersString x (cond c.loop-count.is_half (Some i) c.loop-count.end)) (omega arith)
    (answers_end x c.loop-count.count c.loop-count.is_half c.loop-count.end (omega arith) c.loop-count.invariant.goes_on c.loop-count.invariant.best))
