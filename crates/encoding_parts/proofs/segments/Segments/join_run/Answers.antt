use Rattle.std.proofs.Common.{arith}
use Rattle.encoding_parts.proofs.RunLemmas.{empty_run, longer_run, run_kept, run_there}
use Rattle.encoding_parts.proofs.segments.Segments.join_run.Goals as goal

pub loop-end-init : goal.loop-end-init
loop-end-init c = empty_run c.args.kind c.args.self.now c.args.octets.now c.requires.sound

pub join-requires-clause-held : goal.join-requires-clause-held
join-requires-clause-held c = c.loop-end.invariant.sound.held

pub loop-end-smaller : goal.loop-end-smaller
loop-end-smaller c =
    omega (arith, run_there c.args.kind c.args.self.now c.loop-end.self c.args.frame c.args.octets.now c.loop-end.at c.in-Some.end c.loop-end.invariant c.in-Some.ensures, c.in-Some.ensures.some)

pub loop-end-preserved : goal.loop-end-preserved
loop-end-preserved c =
    longer_run c.args.kind c.args.self.now c.loop-end.self c.join.new.self c.args.frame c.args.octets.now c.loop-end.at c.in-Some.end c.requires.top c.loop-end.invariant c.in-Some.ensures c.in-Ok.ensures.joined c.in-Ok.ensures.light

pub returns-in-Err : goal.returns-in-Err
returns-in-Err c =
    record { run = run_kept c.args.kind c.args.self.now c.loop-end.self c.join.new.self c.args.octets.now c.loop-end.at c.loop-end.invariant c.in-Err.ensures.unchanged }

pub returns-in_default : goal.returns-in_default
returns-in_default c = record { run = c.loop-end.invariant }
