use Rattle.std.proofs.Common.{refl}
use Rattle.types.specs.View.{ty_view}
use Rattle.engine.proofs.ReaderLemmas.{stands_fresh}
use Rattle.engine.proofs.strict_reader.StrictReader.new.Goals as goal

pub returns-clause-fresh : goal.returns-clause-fresh
returns-clause-fresh c = record {
  type_is = refl;
  well_formed = c.new.ensures.well_formed;
  reader_stands = stands_fresh (ty_view c.args.ty.now) c.new.result c.new.ensures.shape c.new.ensures.fresh;
  kept_are = c.new-2.ensures.items;
}
