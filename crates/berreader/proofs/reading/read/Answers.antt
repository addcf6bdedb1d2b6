use Rattle.std.proofs.Common.{[], ◌++◌, take, sym, ◌∙◌, subst}
use Rattle.std.proofs.lemmas.List.{length-take-le}
use Rattle.types.specs.View.{ty_view, value_view}
use Rattle.berreader.specs.Feeding.{HasValue}
use Rattle.berreader.proofs.AcceptedLemmas.{only_accepted}
use Rattle.berreader.proofs.FreshLemmas.{read_done, read_more}
use Rattle.berreader.proofs.HeldLemmas.{value_light}
use Rattle.berreader.proofs.RefusedLemmas.{final_passed}
use Rattle.berreader.proofs.reading.read.Goals as goal

pub returns-in-Done-clause-value : goal.returns-in-Done-clause-value
returns-in-Done-clause-value c =
    read_done (ty_view c.args.ty.now) c.new-reader.result c.feed.new.self c.args.octets.now c.in-Done.value c.in-Done.used c.in_ok-value.field-0 c.new-reader.ensures.shape c.new-reader.ensures.none c.in-Done.is c.in_ok-value.ensures.value

pub returns-in-Done-clause-light : goal.returns-in-Done-clause-light
returns-in-Done-clause-light c =
    let used = c.in-Done.used in
    let octets = c.args.octets.now in
    let done = read_done (ty_view c.args.ty.now) c.new-reader.result c.feed.new.self octets c.in-Done.value used c.in_ok-value.field-0 c.new-reader.ensures.shape c.new-reader.ensures.none c.in-Done.is c.in_ok-value.ensures.value in
    value_light (ty_view c.args.ty.now) (value_view c.in-Done.value) (take used octets) used (sym (length-take-le used octets done.0)) done.1

pub returns-in-Done-clause-only : goal.returns-in-Done-clause-only
returns-in-Done-clause-only c = λ v n below g.
    let octets = c.args.octets.now in
    let value = c.in-Done.value in
    let used = c.in-Done.used in
    let done = read_done (ty_view c.args.ty.now) c.new-reader.result c.feed.new.self octets value used c.in_ok-value.field-0 c.new-reader.ensures.shape c.new-reader.ensures.none c.in-Done.is c.in_ok-value.ensures.value in
    let only = only_accepted (ty_view c.args.ty.now) (value_view value) v n used octets c.new-reader.ensures.well_formed done.0 below done.1 g in
    (only.used_is, only.same)

pub returns-clause-truncated : goal.returns-clause-truncated
returns-clause-truncated c = λ same h.
    let more = read_more c.new-reader.result c.feed.new.self c.args.octets.now c.in_ok-value.field-0 c.new-reader.ensures.none c.in-More.is c.in_ok-value.ensures.value in
    more.none (subst (λ s. HasValue s c.args.octets.now) (sym c.new-reader.ensures.shape) h)

pub returns-clause-begun : goal.returns-clause-begun
returns-clause-begun c = λ same.
    let more = read_more c.new-reader.result c.feed.new.self c.args.octets.now c.in_ok-value.field-0 c.new-reader.ensures.none c.in-More.is c.in_ok-value.ensures.value in
    (c.feed.new.self, c.in_ok-value.ensures.shape ∙ c.new-reader.ensures.shape, more.has_been_fed)

pub returns-in_err-value-clause-never : goal.returns-in_err-value-clause-never
returns-in_err-value-clause-never c =
    final_passed c.from_residual.result _ _ c.from_residual.ensures.1
    (λ final more h. c.in_err-value.ensures.never c.new-reader.ensures.fresh.accepts final [] more c.new-reader.ensures.none (subst (λ s. HasValue s (c.args.octets.now ++ more)) (sym c.new-reader.ensures.shape) h))
