use Rattle.types.specs.View.{ty_view}
use Rattle.strict.proofs.FillLemmas.{short_read}
use Rattle.strict.proofs.filling.read_shortly.Goals as goal

pub returns-then-fill_canonical : goal.returns-then-fill_canonical
returns-then-fill_canonical c = λ rule. short_read rule (ty_view c.args.ty.now) c.args.tag c.args.room c.args.octets.now c.fill_canonical.new.value c.in_ok-stop.stop c.requires.leaf c.requires.tag c.in_ok-stop.ensures (c.fill_canonical.ensures c.if-fill_canonical.true)
