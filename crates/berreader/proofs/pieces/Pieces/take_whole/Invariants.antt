use Rattle.std.proofs.Common.{◌≡◌, ◌+◌, ◌*◌, ◌-◌, None, length}
use Rattle.berreader.specs.Cursor.{ends_of}
use Rattle.berreader.proofs.FeedingLemmas.{IsOnTheWay}
use Rattle.berreader.proofs.pieces.Pieces.take_whole.Given as goal

abbrev pub invariant-loop-used : goal.invariant-loop-used
invariant-loop-used l = IsOnTheWay l.initial.self l.self l.octets l.at × (l.whole ≡ None)

abbrev pub decreases-loop-used : goal.decreases-loop-used
decreases-loop-used l = ends_of l.self.cursor + 2 * (length l.octets - l.at)
