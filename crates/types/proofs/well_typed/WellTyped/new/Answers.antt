use Rattle.std.proofs.Common.{ap, refl, ◌∙◌}
use mathlib.Core.Bool.{not}
use Rattle.types.specs.View.{ty_view}
use Rattle.types.proofs.LoopLemmas.{so, not_so}
use Rattle.types.proofs.LimitLemmas.{fits}
use Rattle.types.proofs.NodeLemmas.{numbers_differ, numbers_asked}
use Rattle.types.proofs.TagLemmas.{distinct_at_each_node}
use Rattle.types.proofs.well_typed.WellTyped.new.Goals as goal

pub returns-then-not-each_meets-2-clause-exact : goal.returns-then-not-each_meets-2-clause-exact
returns-then-not-each_meets-2-clause-exact c = (λ yes. cc yes, λ h. absurd (not_so _ _ c.each_meets-2.ensures c.if-not-each_meets-2.true (numbers_asked _ h.numbers)))

pub returns-then-not-each_meets-2-clause-numbers : goal.returns-then-not-each_meets-2-clause-numbers
returns-then-not-each_meets-2-clause-numbers c = λ is h. not_so _ _ c.each_meets-2.ensures c.if-not-each_meets-2.true (numbers_asked _ h)

pub returns-then-not-each_meets-3-clause-exact : goal.returns-then-not-each_meets-3-clause-exact
returns-then-not-each_meets-3-clause-exact c = (λ yes. cc yes, λ h. absurd (not_so _ _ c.each_meets-3.ensures c.if-not-each_meets-3.true ((distinct_at_each_node (ty_view c.args.ty)).1 h.tags)))

pub returns-then-not-each_meets-3-clause-tags : goal.returns-then-not-each_meets-3-clause-tags
returns-then-not-each_meets-3-clause-tags c = λ is h. not_so _ _ c.each_meets-3.ensures c.if-not-each_meets-3.true ((distinct_at_each_node (ty_view c.args.ty)).1 h)

pub invariant_of-result : goal.invariant_of-result
invariant_of-result c =
    let room = fits _ _ _ _ c.nodes_left.result c.nodes_left.ensures (c.is_none.ensures ∙ ap not c.if-is_none.false) in
    record {
      limits = record { nodes = room.0; levels = room.1; each = so _ _ c.each_meets.ensures c.if-not-each_meets.false };
      tags = (distinct_at_each_node (ty_view c.args.ty)).0 (so _ _ c.each_meets-3.ensures c.if-not-each_meets-3.false);
      numbers = numbers_differ _ (so _ _ c.each_meets.ensures c.if-not-each_meets.false) (so _ _ c.each_meets-2.ensures c.if-not-each_meets-2.false);
      defaults = so _ _ c.each_meets-4.ensures c.if-not-each_meets-4.false;
    }

pub returns-clause-exact : goal.returns-clause-exact
returns-clause-exact c = (λ yes. invariant_of-result c, λ h. refl)
