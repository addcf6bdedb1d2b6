use Rattle.std.proofs.Common.{◌≡◌, ◌∙◌, ◌+◌, ◌-◌, ◌<◌, [], ◌∷◌, ◌++◌, Some, true, false, map, sym, ap, subst, arith, length}
use Rattle.std.proofs.lemmas.List.{map-append}
use Rattle.std.proofs.lemmas.Result.{err_from_is_err_and}
use Rattle.syntax.specs.View.{assignment}
use Rattle.syntax.specs.Reading.{IsRefusal, signs_from, more_at, in_front}
use Rattle.syntax.specs.ModuleReading.{assignment_at}
use Rattle.syntax.proofs.Loops.{more_none, more_last, more_next, more_over}
use Rattle.syntax.proofs.modules.more_at.Goals as goal

pub returns-in_err-assignment : goal.returns-in_err-assignment
returns-in_err-assignment c =
    let p = err_from_is_err_and c.from_residual.result c.from_residual.ensures.1 in
    let left : 0 < length c.args.terminals.now - c.loop-count._count = omega arith in
    rw p.1 (λ other.
    sym c.loop-count.invariant
    ∙ more_none (assignment_at) (map assignment c.loop-count.found.items) (signs_from c.loop-count.next c.args.terminals.now) (length c.args.terminals.now - c.loop-count._count) left
    (c.in_err-assignment.ensures (subst IsRefusal p.2 other)))

pub returns-then-is_last : goal.returns-then-is_last
returns-then-is_last c =
    let front = c.loop-count.found.items in
    let found = c.in_ok-assignment.assignment in
    let behind = signs_from c.in_ok-assignment.behind c.args.terminals.now in
    let items : map assignment c.push.new.self.items ≡ map assignment front ++ (assignment found ∷ []) = ap (map assignment) c.in_ok-push.ensures.items ∙ map-append assignment front (found ∷ []) in
    let turn : assignment_at (signs_from c.loop-count.next c.args.terminals.now) ≡ Some ((assignment found, true), behind) =
    c.in_ok-assignment.ensures ∙ ap (λ b. Some ((assignment found, b), behind)) c.if-is_last.true in
    let left : 0 < length c.args.terminals.now - c.loop-count._count = omega arith in
    sym c.loop-count.invariant
    ∙ more_last (assignment_at) (map assignment front) (signs_from c.loop-count.next c.args.terminals.now) (length c.args.terminals.now - c.loop-count._count) (assignment found) behind left turn
    ∙ ap (λ i. Some (i, behind)) (sym items)

pub loop-count-preserved : goal.loop-count-preserved
loop-count-preserved c =
    let front = c.loop-count.found.items in
    let found = c.in_ok-assignment.assignment in
    let behind = signs_from c.in_ok-assignment.behind c.args.terminals.now in
    let items : map assignment c.push.new.self.items ≡ map assignment front ++ (assignment found ∷ []) = ap (map assignment) c.in_ok-push.ensures.items ∙ map-append assignment front (found ∷ []) in
    let turn : assignment_at (signs_from c.loop-count.next c.args.terminals.now) ≡ Some ((assignment found, false), behind) =
    c.in_ok-assignment.ensures ∙ ap (λ b. Some ((assignment found, b), behind)) c.if-is_last.false in
    let left : 0 < length c.args.terminals.now - c.loop-count._count = omega arith in
    let fewer : length c.args.terminals.now - (c.loop-count._count + 1) ≡ (length c.args.terminals.now - c.loop-count._count) - 1 = omega arith in
    ap (λ i. in_front i (more_at (assignment_at) (length c.args.terminals.now - (c.loop-count._count + 1)) behind)) items
    ∙ ap (λ n. in_front (map assignment front ++ (assignment found ∷ [])) (more_at (assignment_at) n behind)) fewer
    ∙ sym (more_next (assignment_at) (map assignment front) (signs_from c.loop-count.next c.args.terminals.now) (length c.args.terminals.now - c.loop-count._count) (assignment found) behind left turn)
    ∙ c.loop-count.invariant

pub returns : goal.returns
returns c = λ _.
    let front = map assignment c.loop-count.found.items in
    let rest = signs_from c.loop-count.next c.args.terminals.now in
    let none_left : length c.args.terminals.now - c.loop-count._count ≡ 0 = omega arith in
    sym c.loop-count.invariant ∙ ap (λ n. in_front front (more_at (assignment_at) n rest)) none_left ∙ more_over (assignment_at) front rest
