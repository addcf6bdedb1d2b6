use Rattle.std.proofs.Common.{map, arith}
use Rattle.notation.proofs.GatherLemmas.{gathered_more, gathered_other}
use Rattle.notation.proofs.references.+gather.Goals as goal

pub loop-alternative-preserved : goal.loop-alternative-preserved
loop-alternative-preserved t c =
    gathered_other (map (λ n. n.now) c.args.names.now.items) (map (λ n. n.now) c.loop-alternative.names.items) (map (λ n. n.now) c.gather-in-loop-alternative.new.names.items) c.deref-alternative-items.result.now c.loop-alternative.alternative-index c.alternative-item.result (omega arith) c.alternative-item.is c.loop-alternative.invariant c.in_ok-gather-in-Choice.ensures

pub loop-component-preserved : goal.loop-component-preserved
loop-component-preserved t c =
    gathered_more (map (λ n. n.now) c.args.names.now.items) (map (λ n. n.now) c.loop-component.names.items) (map (λ n. n.now) c.gather-in-loop-component.new.names.items) c.deref-component-items.result.now c.loop-component.component-index c.component-item.result (omega arith) c.component-item.is c.loop-component.invariant c.in_ok-gather-in-List.ensures
