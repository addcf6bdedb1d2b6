use Rattle.types.proofs.LoopLemmas.{IsLeftTo}
use Rattle.types.proofs.NodeLemmas.{GoodDefaults}
use Rattle.types.proofs.defaults.are_good_defaults.Given as goal

abbrev pub invariant-loop-field : goal.invariant-loop-field
invariant-loop-field l = IsLeftTo GoodDefaults l.fields l.field-index
