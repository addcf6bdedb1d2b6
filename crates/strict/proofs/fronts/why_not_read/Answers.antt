use Rattle.std.proofs.Common.{inr, false, Some, subst}
use Rattle.octets.specs.Rule.{rule_of}
use Rattle.types.specs.View.{ty_view}
use Rattle.strict.specs.Components.{IsFront}
use Rattle.strict.specs.Head.{EndsHere}
use Rattle.strict.proofs.BarsLemmas.{due_strictly, refused_for_good, refused_by}
use Rattle.strict.proofs.FrontLemmas.{IsStandingKnown, front_known, nothing_begins, part_or_end, no_part}
use Rattle.strict.proofs.fronts.why_not_read.Goals as goal

pub returns-else-begins : goal.returns-else-begins
returns-else-begins c = inr (λ rule. refused_for_good (due_strictly c.not_next.result c.not_next.ensures) (λ more h.
    let octets = c.args.octets.now in
    let type = ty_view c.args.field.now.ty in
    let d = c.args.inside.now.definite in
    let room = c.args.inside.now.room in
    let tag = c.in-Ok-Some.tag in
    let front : IsFront (Some tag) d room octets = subst (λ f. IsFront f d room octets) c.in-Ok-Some.field-0-is c.in-Ok-Some.ensures.value in
    let known : IsStandingKnown false type d room octets = subst (λ b. IsStandingKnown b type d room octets) c.if-begins.false (front_known (Some tag) c.begins.result type d room octets front c.begins.ensures) in
    no_part (rule_of rule) type d room octets more c.requires known h))

pub returns-in-Ok-None : goal.returns-in-Ok-None
returns-in-Ok-None c = inr (λ rule. refused_for_good (tt, tt) (λ more h.
    let octets = c.args.octets.now in
    let type = ty_view c.args.field.now.ty in
    let d = c.args.inside.now.definite in
    let room = c.args.inside.now.room in
    let ends : EndsHere d room octets = subst (λ f. IsFront f d room octets) c.in-Ok-None.field-0-is c.in-Ok-None.ensures.value in
    no_part (rule_of rule) type d room octets more c.requires (nothing_begins type d room octets ends) h))

pub returns-in-Err : goal.returns-in-Err
returns-in-Err c = inr (λ rule. refused_by c.in-Err.ensures.refused (λ more h. part_or_end (rule_of rule) (ty_view c.args.field.now.ty) c.args.inside.now.definite c.args.inside.now.room _ c.requires h) (λ k. k))
