use Rattle.std.proofs.Common.{length}
use Rattle.canon.proofs.tags.+rise_from.Given as goal

abbrev pub decreases-rise_from : goal.decreases-rise_from
decreases-rise_from l = length l.fields.now
