use Rattle.std.proofs.Common.{◌≡◌, ◌-◌, ◌++◌, ℕ, Vec, Global, true, Err, refl, length, take, drop, ap, sym, subst, ◌∙◌, arith}
use Rattle.std.specs.Prelude.{is_some}
use Rattle.std.proofs.lemmas.List.{length-drop}
use Rattle.berreader.specs.declared.pieces.Pieces.{Pieces}
use Rattle.berreader.specs.Cursor.{CanFinish, IsStep}
use Rattle.berreader.specs.Cut.{IsCut}
use Rattle.berreader.specs.Feeding.{HasValue}
use Rattle.berreader.proofs.FeedingLemmas.{cut_on, cut_whole, fed_at, kept_at, never_at, never_on, none_of, shape_kept, slice_behind, taken_is}
use Rattle.berreader.proofs.RefusedLemmas.{final_passed}
use Rattle.berreader.proofs.pieces.Pieces.take_cut.Goals as goal

pub returns-then-is_missing-clause-value : goal.returns-then-is_missing-clause-value
returns-then-is_missing-clause-value c = λ before fed.
    let mid = c.keep.new.self in
    let kept = c.deref.ensures.value in
    let octets = before ++ c.args.octets.now in
    let new : Pieces = record { alloc = mid.alloc; cursor = c.step.new.self; pending = mid.pending; refused = mid.refused; room = mid.room } in
    let at = kept_at c.args.self.now mid before c.args.octets.now fed c.keep.ensures.cursor c.in_ok-keep.ensures.kept in
    let said = c.in-Err.ensures in
    let missing = c.is_missing.ensures.0 c.if-is_missing.true in
    fed_at mid new octets at (said.unchanged (ap Err missing)) refl (c.keep.ensures.refused ∙ c.requires.accepts)
    (subst (IsCut mid.cursor) kept (said.refused.cut missing)) (subst (λ o. CanFinish mid.cursor o → ⊥) kept (said.refused.truncated missing))

pub returns-in-Err-clause-never : goal.returns-in-Err-clause-never
returns-in-Err-clause-never c = λ final before more fed h.
    let mid = c.keep.new.self in
    let octets = before ++ c.args.octets.now in
    let at = kept_at c.args.self.now mid before c.args.octets.now fed c.keep.ensures.cursor c.in_ok-keep.ensures.kept in
    never_at mid octets more at (λ rest f. c.in-Err.ensures.refused.never final rest (subst (λ o. CanFinish mid.cursor (o ++ rest)) (sym c.deref.ensures.value) f))
    (subst (λ shape. HasValue shape (octets ++ more)) (sym (shape_kept c.args.self.now mid c.keep.ensures.cursor)) h)

pub returns-then-is_some-clause-value : goal.returns-then-is_some-clause-value
returns-then-is_some-clause-value c = λ before fed.
    let old = c.args.self.now in
    let mid = c.keep.new.self in
    let used = c.in-Ok.used in
    let whole = c.step.new.whole in
    let new : Pieces = record { alloc = mid.alloc; cursor = c.step.new.self; pending = c.clear.new.self; refused = mid.refused; room = mid.room } in
    let at = kept_at old mid before c.args.octets.now fed c.keep.ensures.cursor c.in_ok-keep.ensures.kept in
    let step = subst (λ o. IsStep mid.cursor new.cursor o whole used) c.deref.ensures.value c.in-Ok.ensures.taken in
    let some : is_some whole ≡ true = sym c.is_some.ensures ∙ c.if-is_some.true in
    cut_whole old mid new (before ++ c.args.octets.now) used (c.len.result - used) whole some at step (shape_kept old mid c.keep.ensures.cursor) (c.keep.ensures.refused ∙ c.requires.accepts) c.clear.ensures.items (omega (arith, c.len.ensures, c.deref.ensures.len, ap length c.deref.ensures.value))

pub returns-clause-value : goal.returns-clause-value
returns-clause-value c = λ before fed.
    let old = c.args.self.now in
    let mid = c.keep.new.self in
    let used = c.in-Ok.used in
    let more = c.in_ok-more.more in
    let kept = c.deref-2.result.now in
    let slice = take (length kept - used) (drop used kept) in
    let next : Pieces = record { alloc = mid.alloc; cursor = c.step.new.self; pending = c.replace-kept.new.dest; refused = mid.refused; room = mid.room } in
    let at = kept_at old mid before c.args.octets.now fed c.keep.ensures.cursor c.in_ok-keep.ensures.kept in
    let none = none_of c.step.new.whole (sym c.is_some.ensures ∙ c.if-is_some.false) in
    let step = taken_is mid.cursor next.cursor mid.pending.items used c.step.new.whole none (subst (λ o. IsStep mid.cursor next.cursor o c.step.new.whole used) c.deref.ensures.value c.in-Ok.ensures.taken) in
    let same : slice ≡ drop used mid.pending.items = slice_behind kept used ∙ ap (drop used) (c.deref-2.ensures.value ∙ ap (λ (v : Vec ℕ Global). v.items) c.replace-kept.ensures.value) in
    let left : c.len-2.result - used - more ≡ length slice - more = omega (arith, c.len-2.ensures, c.deref-2.ensures.len, ap length (slice_behind kept used), length-drop used kept) in
    cut_on old mid next c.take_whole.new.self (before ++ c.args.octets.now) slice used more (c.len-2.result - used - more) c.take_whole.new.whole at step (shape_kept old mid c.keep.ensures.cursor) same left c.in_ok-more.ensures.value

pub returns-in_err-more-clause-never : goal.returns-in_err-more-clause-never
returns-in_err-more-clause-never c =
    final_passed c.from_residual-in_err-more.result _ _ c.from_residual-in_err-more.ensures.1 (λ final before more fed h.
    let old = c.args.self.now in
    let mid = c.keep.new.self in
    let used = c.in-Ok.used in
    let kept = c.deref-2.result.now in
    let slice = take (length kept - used) (drop used kept) in
    let next : Pieces = record { alloc = mid.alloc; cursor = c.step.new.self; pending = c.replace-kept.new.dest; refused = mid.refused; room = mid.room } in
    let at = kept_at old mid before c.args.octets.now fed c.keep.ensures.cursor c.in_ok-keep.ensures.kept in
    let none = none_of c.step.new.whole (sym c.is_some.ensures ∙ c.if-is_some.false) in
    let step = taken_is mid.cursor next.cursor mid.pending.items used c.step.new.whole none (subst (λ o. IsStep mid.cursor next.cursor o c.step.new.whole used) c.deref.ensures.value c.in-Ok.ensures.taken) in
    let same : slice ≡ drop used mid.pending.items = slice_behind kept used ∙ ap (drop used) (c.deref-2.ensures.value ∙ ap (λ (v : Vec ℕ Global). v.items) c.replace-kept.ensures.value) in
    never_on old mid next (before ++ c.args.octets.now) slice more used at step (shape_kept old mid c.keep.ensures.cursor) same (c.in_err-more.ensures.never final) h)
