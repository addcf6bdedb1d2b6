use Rattle.std.proofs.Common.{map, sym, subst}
use Rattle.syntax.specs.View.{entry}
use Rattle.types.proofs.ItemLemmas.{AllDiffer}
use Rattle.builtin_types.proofs.FittingLemmas.{written_differ, differ_written}
use Rattle.builtin_types.proofs.numbering.numbers_differ.Goals as goal

pub returns-clause-differ : goal.returns-clause-differ
returns-clause-differ c = λ differ.
    c.ascending_differ.ensures.1 (subst AllDiffer (sym c.deref.ensures.value) (differ_written (map entry c.args.items.now) c.in_ok-written.written.items c.in_ok-written.ensures.written differ))

pub returns-clause-within : goal.returns-clause-within
returns-clause-within c = λ yes within.
    written_differ (map entry c.args.items.now) c.in_ok-written.written.items c.in_ok-written.ensures.written (subst AllDiffer c.deref.ensures.value (c.ascending_differ.ensures.0 yes)) within
