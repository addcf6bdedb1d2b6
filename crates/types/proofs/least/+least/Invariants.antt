use Rattle.std.proofs.Common.{◌-◌, drop, length}
use Rattle.types.specs.FirstTags.{tags_of_alternatives}
use Rattle.types.specs.Order.{IsLeast}
use Rattle.types.specs.View.{alternatives_view}
use Rattle.types.proofs.least.+least.Given as goal

abbrev pub invariant-least_of-loop-done : goal.invariant-least_of-loop-done
invariant-least_of-loop-done l = IsLeast (tags_of_alternatives (alternatives_view (drop (length l.alternatives - 1 - l.done) l.alternatives))) l.least
