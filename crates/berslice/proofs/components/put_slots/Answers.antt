use Rattle.std.proofs.Common.{◌∙◌}
use Rattle.types.specs.declared.value.Value as value
use Rattle.berslice.proofs.ReadingLemmas.{same_count}
use Rattle.berslice.proofs.components.put_slots.Goals as goal

pub returns-in-Ok : goal.returns-in-Ok
unfolding value.out-Value denote.Hole.Carrier.out
returns-in-Ok c = λ yes slots is. same_count slots c.in-Ok.slots is ∙ c.in-Ok.ensures
