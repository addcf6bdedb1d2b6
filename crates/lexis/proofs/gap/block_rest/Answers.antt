use Rattle.std.proofs.Common.{true, false, arith}
use Rattle.std.specs.Prelude.{codes}
use Rattle.lexis.proofs.GapLemmas.{begins_behind, room_behind, inside_opens, inside_closes, inside_goes_on, inside_ends, inside_ends_only, inside_never}
use Rattle.lexis.proofs.gap.block_rest.Goals as goal

pub loop-count-preserved-then-starts_with : goal.loop-count-preserved-then-starts_with
loop-count-preserved-then-starts_with c =
    let x = c.args.octets.now in
    let at = c.loop-count.count in
    let opens = begins_behind (codes "/*") x at c.starts_with.result true c.starts_with.ensures.value c.if-starts_with.true in
    record {
      within = room_behind x at 2 c.loop-count.invariant.within (c.starts_with.ensures.bound c.if-starts_with.true);
      counted = omega arith;
      inside = inside_opens x at c.loop-count.open opens c.loop-count.invariant.inside;
    }

pub loop-count-preserved-then-not-starts_with : goal.loop-count-preserved-then-not-starts_with
loop-count-preserved-then-not-starts_with c =
    let x = c.args.octets.now in
    let at = c.loop-count.count in
    let opens = begins_behind (codes "/*") x at c.starts_with.result false c.starts_with.ensures.value c.if-starts_with.false in
    let closes = begins_behind (codes "*/") x at c.starts_with-else-starts_with.result false c.starts_with-else-starts_with.ensures.value c.if-not-starts_with.true in
    record {
      within = omega arith;
      counted = omega arith;
      inside = inside_goes_on x at c.loop-count.open closes opens c.loop-count-test.true c.loop-count.invariant.inside;
    }

pub returns-then-open-eq0-clause-value : goal.returns-then-open-eq0-clause-value
returns-then-open-eq0-clause-value c =
    let x = c.args.octets.now in
    let at = c.loop-count.count in
    inside_ends x at c.loop-count.open
    (begins_behind (codes "*/") x at c.starts_with-else-starts_with.result true c.starts_with-else-starts_with.ensures.value c.if-not-starts_with.false)
    c.if-open-eq0.true c.loop-count.invariant.inside

pub returns-then-open-eq0-clause-only : goal.returns-then-open-eq0-clause-only
returns-then-open-eq0-clause-only c =
    let x = c.args.octets.now in
    let at = c.loop-count.count in
    inside_ends_only x at c.loop-count.open
    (begins_behind (codes "*/") x at c.starts_with-else-starts_with.result true c.starts_with-else-starts_with.ensures.value c.if-not-starts_with.false)
    c.if-open-eq0.true c.loop-count.invariant.inside

pub loop-count-preserved : goal.loop-count-preserved
loop-count-preserved c =
    let x = c.args.octets.now in
    let at = c.loop-count.count in
    let closes = begins_behind (codes "*/") x at c.starts_with-else-starts_with.result true c.starts_with-else-starts_with.ensures.value c.if-not-starts_with.false in
    record {
      within = room_behind x at 2 c.loop-count.invariant.within (c.starts_with-else-starts_with.ensures.bound c.if-not-starts_with.false);
      counted = omega arith;
      inside = inside_closes x at c.loop-count.open closes c.if-open-eq0.false c.loop-count.invariant.inside;
    }

pub returns-clause-only : goal.returns-clause-only
returns-clause-only c = λ n r. absurd (inside_never c.args.octets.now c.loop-count.count c.loop-count.open c.loop-count-test.false c.loop-count.invariant.inside n r)
