use Rattle.std.proofs.Common.{true, false, refl}
use Rattle.syntax.specs.declared.tree.DefaultValue.TheVariants as written
use Rattle.types.specs.Shape.{SimpleType, SimpleValue}
use Rattle.types.proofs.ViewLemmas.{value-Boolean}
use Rattle.builtin_types.proofs.TakenLemmas.{simple_at}
use Rattle.builtin_types.proofs.defaults.boolean.Goals as goal

pub returns-in-True : goal.returns-in-True
returns-in-True c = simple_at SimpleType.boolean c.args.written.now written.True _ (SimpleValue.boolean true) c.in-True.is refl (value-Boolean true)

pub returns-in-False : goal.returns-in-False
returns-in-False c = simple_at SimpleType.boolean c.args.written.now written.False _ (SimpleValue.boolean false) c.in-False.is refl (value-Boolean false)
