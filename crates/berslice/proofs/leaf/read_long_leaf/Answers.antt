use Rattle.types.specs.View.{ty_view}
use Rattle.berslice.proofs.LeafLemmas.{leaf_filled}
use Rattle.berslice.proofs.leaf.read_long_leaf.Goals as goal

pub returns-in-Some : goal.returns-in-Some
returns-in-Some c =
    leaf_filled c.args.levels (ty_view c.args.ty.now) c.in_ok-tag.tag c.in-Some.contents.now c.args.octets.now c.fill.new.value c.in-Some.used c.fill.result c.then_some.result c.requires.leaf c.in_ok-tag.ensures.tag c.requires.good c.in-Some.ensures c.fill.ensures c.then_some.ensures
