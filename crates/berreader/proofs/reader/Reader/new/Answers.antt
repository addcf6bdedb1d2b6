use Rattle.std.proofs.Common.{refl, sym, subst}
use Rattle.types.specs.WellFormed.{IsWellFormed}
use Rattle.types.specs.View.{ty_view}
use Rattle.types.specs.declared.ty.Ty.{Ty}
use Rattle.berreader.proofs.FeedingLemmas.{fresh_reader}
use Rattle.berreader.proofs.FreshLemmas.{fresh_has_been_fed}
use Rattle.berreader.proofs.reader.Reader.new.Goals as goal

pub returns-clause-fresh : goal.returns-clause-fresh
returns-clause-fresh c = record {
  accepts = refl;
  layers = c.new.ensures.layers;
  taken = c.new.ensures.taken;
  string = c.new.ensures.string;
  kept = c.new-2.ensures.items;
}

pub invariant_of-result : goal.invariant_of-result
invariant_of-result c =
    fresh_reader _ (subst IsWellFormed (sym c.new.ensures.ty) (subst (λ (t : Ty). IsWellFormed (ty_view t)) (sym c.as_type.ensures.value) c.as_type.ensures.well_formed)) (returns-clause-fresh c) c.new.ensures.counted

pub returns-clause-none : goal.returns-clause-none
returns-clause-none c = fresh_has_been_fed _ (returns-clause-fresh c)
