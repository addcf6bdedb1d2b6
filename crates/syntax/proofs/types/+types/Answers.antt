use Rattle.std.proofs.Common.{◌≡◌, ◌∙◌, ℕ, ◌+◌, ◌-◌, ◌<◌, List, Some, true, false, sym, ap, subst, arith}
use Rattle.std.proofs.lemmas.Result.{err_from_is_err_and}
use Rattle.syntax.specs.Tree.{Form}
use Rattle.lexis.specs.Signs.{Sign}
use Rattle.syntax.specs.View.{alternative}
use Rattle.syntax.specs.Reading.{IsRefusal, signs_from}
use Rattle.syntax.specs.TypeReading.{type_at}
use Rattle.syntax.specs.PartReading.{listed, part_behind, parts_at}
use Rattle.syntax.proofs.PartReading.{parts_none, parts_cut, parts_last, parts_next, parts_over}
use Rattle.syntax.proofs.types.+types.Goals as goal

pub parts_at-returns-in_err-named : goal.parts_at-returns-in_err-named
parts_at-returns-in_err-named t c =
    let p = err_from_is_err_and c.from_residual.result c.from_residual.ensures.1 in
    let left : 0 < 256 - c.loop-count._count = omega arith in
    rw p.1 (λ other. sym c.loop-count.invariant
    ∙ parts_none (type_at c.args.source.levels) (listed c.loop-count.found) (signs_from c.loop-count.next c.args.source.terminals.now) (256 - c.loop-count._count) left (c.in_err-named.ensures (subst IsRefusal p.2 other)))

pub parts_at-returns-in_err-longer : goal.parts_at-returns-in_err-longer
parts_at-returns-in_err-longer t c =
    let p = err_from_is_err_and c.from_residual-in_err-longer.result c.from_residual-in_err-longer.ensures.1 in
    let named : (List ℕ × Form) × List Sign = (alternative c.in_ok-named.named, signs_from c.in_ok-named.behind c.args.source.terminals.now) in
    let left : 0 < 256 - c.loop-count._count = omega arith in
    rw p.1 (λ other. sym c.loop-count.invariant
    ∙ parts_cut (type_at c.args.source.levels) (listed c.loop-count.found) (signs_from c.loop-count.next c.args.source.terminals.now) (256 - c.loop-count._count) named left
    c.in_ok-named.ensures (c.in_err-longer.ensures (subst IsRefusal p.2 other)))

pub parts_at-returns-then-is_last : goal.parts_at-returns-then-is_last
parts_at-returns-then-is_last t c =
    let named : (List ℕ × Form) × List Sign = (alternative c.in_ok-named.named, signs_from c.in_ok-named.behind c.args.source.terminals.now) in
    let rest = signs_from c.in_ok-longer.behind c.args.source.terminals.now in
    let part : part_behind (listed c.loop-count.found) named.0 named.1 ≡ Some ((listed c.in_ok-longer.longer, true), rest) =
    c.in_ok-longer.ensures ∙ ap (λ b. Some ((listed c.in_ok-longer.longer, b), rest)) c.if-is_last.true in
    let left : 0 < 256 - c.loop-count._count = omega arith in
    sym c.loop-count.invariant
    ∙ parts_last (type_at c.args.source.levels) (listed c.loop-count.found) (signs_from c.loop-count.next c.args.source.terminals.now) (256 - c.loop-count._count) named (listed c.in_ok-longer.longer) rest left
    c.in_ok-named.ensures part
    ∙ ap (λ f. Some (f, rest)) (sym c.into_expr.ensures)

pub parts_at-loop-count-preserved : goal.parts_at-loop-count-preserved
parts_at-loop-count-preserved t c =
    let named : (List ℕ × Form) × List Sign = (alternative c.in_ok-named.named, signs_from c.in_ok-named.behind c.args.source.terminals.now) in
    let rest = signs_from c.in_ok-longer.behind c.args.source.terminals.now in
    let part : part_behind (listed c.loop-count.found) named.0 named.1 ≡ Some ((listed c.in_ok-longer.longer, false), rest) =
    c.in_ok-longer.ensures ∙ ap (λ b. Some ((listed c.in_ok-longer.longer, b), rest)) c.if-is_last.false in
    let left : 0 < 256 - c.loop-count._count = omega arith in
    let fewer : 256 - (c.loop-count._count + 1) ≡ (256 - c.loop-count._count) - 1 = omega arith in
    ap (λ n. parts_at (type_at c.args.source.levels) n (listed c.in_ok-longer.longer) rest) fewer
    ∙ sym (parts_next (type_at c.args.source.levels) (listed c.loop-count.found) (signs_from c.loop-count.next c.args.source.terminals.now) (256 - c.loop-count._count) named (listed c.in_ok-longer.longer) rest left
    c.in_ok-named.ensures part)
    ∙ c.loop-count.invariant

pub parts_at-returns : goal.parts_at-returns
parts_at-returns t c = λ _.
    let rest = signs_from c.loop-count.next c.args.source.terminals.now in
    let none_left : 256 - c.loop-count._count ≡ 0 = omega arith in
    sym c.loop-count.invariant
    ∙ ap (λ n. parts_at (type_at c.args.source.levels) n (listed c.loop-count.found) rest) none_left
    ∙ parts_over (type_at c.args.source.levels) (listed c.loop-count.found) rest
