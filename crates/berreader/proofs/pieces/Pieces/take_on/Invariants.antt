use Rattle.std.proofs.Common.{◌≡◌, ◌-◌, None, length}
use Rattle.berreader.proofs.FeedingLemmas.{IsFedSoFar}
use Rattle.berreader.proofs.pieces.Pieces.take_on.Given as goal

abbrev pub invariant-loop-rest : goal.invariant-loop-rest
invariant-loop-rest l = IsFedSoFar l.initial.self l.self l.piece l.at × (l.whole ≡ None)

abbrev pub decreases-loop-rest : goal.decreases-loop-rest
decreases-loop-rest l = length l.piece - l.at
