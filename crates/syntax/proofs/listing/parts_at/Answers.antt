use Rattle.std.proofs.Common.{◌≡◌, ◌∙◌, ◌+◌, ◌-◌, ◌<◌, [], ◌∷◌, ◌++◌, Some, true, false, map, sym, ap, subst, arith}
use Rattle.std.proofs.lemmas.List.{map-append}
use Rattle.std.proofs.lemmas.Result.{err_from_is_err_and}
use Rattle.syntax.specs.Reading.{IsRefusal, signs_from, more_at, in_front}
use Rattle.syntax.proofs.Loops.{more_none, more_last, more_next, more_over}
use Rattle.syntax.proofs.listing.parts_at.Goals as goal

pub returns-in_err-part : goal.returns-in_err-part
returns-in_err-part g c =
    let p = err_from_is_err_and c.from_residual.result c.from_residual.ensures.1 in
    let left : 0 < 256 - c.loop-count._count = omega arith in
    rw p.1 (λ other.
    sym c.loop-count.invariant
    ∙ more_none g.P.Part.read (map g.P.Part.view c.loop-count.found.items) (signs_from c.loop-count.next c.args.terminals.now) (256 - c.loop-count._count) left
    (c.in_err-part.ensures (subst IsRefusal p.2 other)))

pub returns-then-is_last : goal.returns-then-is_last
returns-then-is_last g c =
    let front = c.loop-count.found.items in
    let found = c.in_ok-part.part in
    let behind = signs_from c.in_ok-part.behind c.args.terminals.now in
    let items : map g.P.Part.view c.push.new.self.items ≡ map g.P.Part.view front ++ (g.P.Part.view found ∷ []) = ap (map g.P.Part.view) c.in_ok-push.ensures.items ∙ map-append g.P.Part.view front (found ∷ []) in
    let turn : g.P.Part.read (signs_from c.loop-count.next c.args.terminals.now) ≡ Some ((g.P.Part.view found, true), behind) =
    c.in_ok-part.ensures ∙ ap (λ b. Some ((g.P.Part.view found, b), behind)) c.if-is_last.true in
    let left : 0 < 256 - c.loop-count._count = omega arith in
    sym c.loop-count.invariant
    ∙ more_last g.P.Part.read (map g.P.Part.view front) (signs_from c.loop-count.next c.args.terminals.now) (256 - c.loop-count._count) (g.P.Part.view found) behind left turn
    ∙ ap (λ i. Some (i, behind)) (sym items)

pub loop-count-preserved : goal.loop-count-preserved
loop-count-preserved g c =
    let front = c.loop-count.found.items in
    let found = c.in_ok-part.part in
    let behind = signs_from c.in_ok-part.behind c.args.terminals.now in
    let items : map g.P.Part.view c.push.new.self.items ≡ map g.P.Part.view front ++ (g.P.Part.view found ∷ []) = ap (map g.P.Part.view) c.in_ok-push.ensures.items ∙ map-append g.P.Part.view front (found ∷ []) in
    let turn : g.P.Part.read (signs_from c.loop-count.next c.args.terminals.now) ≡ Some ((g.P.Part.view found, false), behind) =
    c.in_ok-part.ensures ∙ ap (λ b. Some ((g.P.Part.view found, b), behind)) c.if-is_last.false in
    let left : 0 < 256 - c.loop-count._count = omega arith in
    let fewer : 256 - (c.loop-count._count + 1) ≡ (256 - c.loop-count._count) - 1 = omega arith in
    ap (λ i. in_front i (more_at g.P.Part.read (256 - (c.loop-count._count + 1)) behind)) items
    ∙ ap (λ n. in_front (map g.P.Part.view front ++ (g.P.Part.view found ∷ [])) (more_at g.P.Part.read n behind)) fewer
    ∙ sym (more_next g.P.Part.read (map g.P.Part.view front) (signs_from c.loop-count.next c.args.terminals.now) (256 - c.loop-count._count) (g.P.Part.view found) behind left turn)
    ∙ c.loop-count.invariant

pub returns : goal.returns
returns g c = λ _.
    let front = map g.P.Part.view c.loop-count.found.items in
    let rest = signs_from c.loop-count.next c.args.terminals.now in
    let none_left : 256 - c.loop-count._count ≡ 0 = omega arith in
    sym c.loop-count.invariant ∙ ap (λ n. in_front front (more_at g.P.Part.read n rest)) none_left ∙ more_over g.P.Part.read front rest
