use Rattle.berslice.proofs.LeafLemmas.{more_taken, nearer, none_taken}
use Rattle.berslice.proofs.leaf.pass_segments.Goals as goal

pub loop-kind-init : goal.loop-kind-init
loop-kind-init c = none_taken c.args.kind c.args.string.now c.args.octets.now c.args.start c.requires.there c.requires.sound

pub loop-kind-smaller : goal.loop-kind-smaller
loop-kind-smaller c = nearer c.args.kind c.loop-kind.string c.pass.new.self c.args.octets.now c.loop-kind.at c.in-Ok.used c.loop-kind.invariant.there c.in-Ok.ensures.taken c.in-Ok.ensures.smaller

pub loop-kind-preserved : goal.loop-kind-preserved
loop-kind-preserved c = more_taken c.args.kind c.args.string.now c.loop-kind.string c.pass.new.self c.args.octets.now c.args.start c.loop-kind.at c.in-Ok.used c.loop-kind.invariant c.in-Ok.ensures.taken c.in-Ok.ensures.sound

pub returns-clause-passed : goal.returns-clause-passed
returns-clause-passed c = c.loop-kind.invariant.passed
