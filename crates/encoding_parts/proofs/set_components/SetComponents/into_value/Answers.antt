use Rattle.types.proofs.LoopLemmas.{so}
use Rattle.encoding_parts.proofs.set_components.SetComponents.into_value.Goals as goal

pub filled_value-requires : goal.filled_value-requires
filled_value-requires c = so _ _ c.are_filled.ensures c.if-not-are_filled.false
