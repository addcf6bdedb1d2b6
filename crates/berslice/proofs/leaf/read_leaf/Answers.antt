use Rattle.types.specs.View.{ty_view}
use Rattle.berslice.proofs.LeafLemmas.{leaf_filled, short_at}
use Rattle.berslice.proofs.leaf.read_leaf.Goals as goal

pub returns-in-Some : goal.returns-in-Some
returns-in-Some c =
    let octets = c.args.octets.now in
    let at = short_at c.args.tag octets c.in-Some.used c.in-Some.ensures in
    leaf_filled c.args.levels (ty_view c.args.ty.now) c.args.tag _ octets c.fill.new.value c.in-Some.used c.fill.result c.then_some.result c.requires.leaf c.requires.tag c.requires.good at c.fill.ensures c.then_some.ensures
