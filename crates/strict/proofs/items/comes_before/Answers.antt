use Rattle.std.proofs.Common.{ap, sym, ◌∙◌, arith}
use Rattle.std.specs.Ordering.{is_lt}
use Rattle.strict.proofs.NeighbourLemmas.{apart_at, alike_at, none_before_none}
use Rattle.strict.proofs.items.comes_before.Goals as goal

pub returns-then-b-eq0 : goal.returns-then-b-eq0
returns-then-b-eq0 c = none_before_none c.args.a.now c.args.b.now (omega arith)

pub returns-then-a-i : goal.returns-then-a-i
returns-then-a-i c = apart_at c.args.a.now c.args.b.now c.loop-i.i (omega arith) (omega arith) c.if-a-i.true ∙ sym (ap is_lt c.loop-i.invariant)

pub loop-i-preserved : goal.loop-i-preserved
loop-i-preserved c = c.loop-i.invariant ∙ alike_at c.args.a.now c.args.b.now c.loop-i.i (omega arith) (omega arith) c.if-a-i.false
