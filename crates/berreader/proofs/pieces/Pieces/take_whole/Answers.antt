use Rattle.std.proofs.Common.{◌≡◌, ◌+◌, refl, ap, sym, subst, ◌∙◌, ◌++◌, Err, drop}
use Rattle.types.specs.declared.refusal.Refusal.TheVariants as Refusal
use Rattle.types.specs.View.{value_view}
use Rattle.berreader.specs.declared.pieces.Pieces.{Pieces}
use Rattle.berreader.specs.Cursor.{CanFinish}
use Rattle.berreader.specs.Cut.{IsCut}
use Rattle.berreader.specs.Feeding.{IsTakenWhole}
use Rattle.berreader.proofs.FeedingLemmas.{items_on_the_way, on_the_way_step, taken_some, done_on_the_way, kept_on_the_way, none_on_the_way, slice_behind, taken_behind, whole_behind}
use Rattle.berreader.proofs.pieces.Pieces.take_whole.Goals as goal

pub loop-used-preserved : goal.loop-used-preserved
loop-used-preserved c =
    let octets = c.args.octets.now in
    let used = c.in-Ok.used in
    let self = c.loop-used.self in
    let new : Pieces = record { alloc = self.alloc; cursor = c.step.new.self; pending = self.pending; refused = self.refused; room = c.take_items-at.new.room } in
    let at = c.loop-used.at + c.take_items-at.result in
    let now : Pieces = record { alloc = self.alloc; cursor = c.take_items-at.new.self; pending = self.pending; refused = self.refused; room = c.take_items-at.new.room } in
    let taken = c.take_items-at.ensures in
    let way = items_on_the_way c.args.self.now self now octets c.loop-used.at c.take_items-at.result c.loop-used.invariant.0 taken.taken taken.sound refl refl in
    let step = taken_behind now.cursor new.cursor octets at used c.step.new.whole c.in-None.is c.in-Ok.ensures.taken in
    (on_the_way_step c.args.self.now now new octets at used way (taken_some now.cursor new.cursor (drop at octets) used step) c.in-Ok.ensures.sound refl refl, c.in-None.is)

pub returns-in-Some-clause-value : goal.returns-in-Some-clause-value
returns-in-Some-clause-value c = λ before on.
    let octets = c.args.octets.now in
    let used = c.in-Ok.used in
    let value = c.in-Some.field-0 in
    let self = c.loop-used.self in
    let new : Pieces = record { alloc = self.alloc; cursor = c.step.new.self; pending = self.pending; refused = self.refused; room = c.take_items-at.new.room } in
    let at = c.loop-used.at + c.take_items-at.result in
    let now : Pieces = record { alloc = self.alloc; cursor = c.take_items-at.new.self; pending = self.pending; refused = self.refused; room = c.take_items-at.new.room } in
    let taken = c.take_items-at.ensures in
    let way = items_on_the_way c.args.self.now self now octets c.loop-used.at c.take_items-at.result c.loop-used.invariant.0 taken.taken taken.sound refl refl in
    subst (λ w. IsTakenWhole c.args.self.now new before octets w (at + used)) (sym c.in-Some.is)
    (done_on_the_way c.args.self.now now new octets before at used (value_view value) way
    (whole_behind now.cursor new.cursor octets at used value c.step.new.whole c.in-Some.is c.in-Ok.ensures.taken) refl refl on)

pub returns-then-not-is_missing-clause-never : goal.returns-then-not-is_missing-clause-never
returns-then-not-is_missing-clause-never c = λ final before more on.
    let octets = c.args.octets.now in
    let self = c.loop-used.self in
    let at = c.loop-used.at + c.take_items-at.result in
    let now : Pieces = record { alloc = self.alloc; cursor = c.take_items-at.new.self; pending = self.pending; refused = self.refused; room = c.take_items-at.new.room } in
    let taken = c.take_items-at.ensures in
    let way = items_on_the_way c.args.self.now self now octets c.loop-used.at c.take_items-at.result c.loop-used.invariant.0 taken.taken taken.sound refl refl in
    none_on_the_way c.args.self.now now octets before more at way
    (λ rest f. c.in-Err.ensures.refused.never final rest (subst (λ o. CanFinish now.cursor (o ++ rest)) (sym (slice_behind octets at)) f)) on

pub returns-in-Err-clause-value : goal.returns-in-Err-clause-value
returns-in-Err-clause-value c = λ before on.
    let octets = c.args.octets.now in
    let self = c.loop-used.self in
    let at = c.loop-used.at + c.take_items-at.result in
    let now : Pieces = record { alloc = self.alloc; cursor = c.take_items-at.new.self; pending = self.pending; refused = self.refused; room = c.take_items-at.new.room } in
    let taken = c.take_items-at.ensures in
    let way = items_on_the_way c.args.self.now self now octets c.loop-used.at c.take_items-at.result c.loop-used.invariant.0 taken.taken taken.sound refl refl in
    let truncated : Refusal.Truncated ≡ c.in-Err.refusal = sym (c.is_missing.ensures.0 c.if-not-is_missing.false) in
    let unchanged = c.in-Err.ensures.unchanged (ap Err (sym truncated)) in
    kept_on_the_way c.args.self.now now c.keep.new.self octets before at way (c.keep.ensures.cursor ∙ unchanged) (c.keep.ensures.refused)
    (c.in_ok-keep-in-Err.ensures.kept ∙ ap (λ o. now.pending.items ++ o) (slice_behind octets at))
    (subst (IsCut now.cursor) (slice_behind octets at) (c.in-Err.ensures.refused.cut (sym truncated)))
    (λ f. c.in-Err.ensures.refused.truncated (sym truncated) (subst (CanFinish now.cursor) (sym (slice_behind octets at)) f)) on
