use Rattle.std.proofs.Common.{length}
use Rattle.canon.proofs.contents.+size_of_subidentifiers.Given as goal

abbrev pub decreases-size_of_subidentifiers : goal.decreases-size_of_subidentifiers
decreases-size_of_subidentifiers l = length l.numbers.now
