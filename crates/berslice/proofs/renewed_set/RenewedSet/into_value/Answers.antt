use Rattle.std.proofs.Common.{List, subst, sym, ◌∙◌}
use Rattle.types.specs.View.{value_view}
use Rattle.encoding_parts.specs.HeldParts.{come_view}
use Rattle.encoding_parts.specs.Parts.{SetComponent, IsValueOfSet}
use Rattle.berslice.proofs.RenewedSetLemmas.{come_renewed, emptied_view, none_left, none_missing}
use Rattle.berslice.proofs.renewed_set.RenewedSet.into_value.Goals as goal

pub returns-in-Ok : goal.returns-in-Ok
returns-in-Ok c =
    let s = c.empty_up_to.new.self in
    let done = c.empty_up_to.ensures in
    let same = come_renewed s (done.first ∙ sym done.stop) ∙ emptied_view c.args.self.stop c.args.self s done in
    subst (λ (l : List SetComponent). IsValueOfSet l (value_view c.in-Ok.value)) same c.in-Ok.ensures.value

pub filled_value-requires : goal.filled_value-requires
filled_value-requires c = none_missing (come_view c.args.self.set_components) (none_left c.args.self c.if-self.true c.if-not-self.true c.requires.filled)

pub returns-then-not-self : goal.returns-then-not-self
returns-then-not-self c =
    subst (λ (l : List SetComponent). IsValueOfSet l (value_view c.filled_value.result)) (come_renewed c.args.self c.if-self.true) c.filled_value.ensures
