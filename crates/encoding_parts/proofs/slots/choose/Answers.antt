use Rattle.std.proofs.Common.{rules}
use Rattle.types.specs.declared.value.Value as value
use Rattle.types.specs.View.{value_view}
use Rattle.types.proofs.ViewLemmas.{value-Chosen}
use Rattle.encoding_parts.proofs.slots.choose.Goals as goal

pub returns-in-Chosen : goal.returns-in-Chosen
returns-in-Chosen c = λ chosen. (value_view c.in-Chosen.field-1.value, search (rules, value.the_lemmas))

pub returns-in-Ok : goal.returns-in-Ok
returns-in-Ok c = λ chosen. (_, value-Chosen c.args.which c.in-Ok.boxed)
