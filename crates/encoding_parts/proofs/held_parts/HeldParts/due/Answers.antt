use Rattle.std.proofs.Common.{◌∙◌, ℕ, List, Contains, IfOk, IfErr, ap, sym, subst}
use Rattle.types.specs.FirstTags.{first_tags}
use Rattle.types.specs.Shape.{Shape}
use Rattle.types.specs.View.{ComponentView, ty_view}
use Rattle.types.specs.declared.refusal.Refusal.{Refusal}
use Rattle.encoding_parts.specs.HeldParts.{parts_view}
use Rattle.encoding_parts.specs.Parts.{Parts, IsNextOf, IsDue}
use Rattle.encoding_parts.proofs.HeldPartsLemmas.{left_is}
use Rattle.encoding_parts.proofs.held_parts.HeldParts.due.Goals as goal

pub returns-in-Sequence-clause-value : goal.returns-in-Sequence-clause-value
returns-in-Sequence-clause-value c =
    let arm = c.in-Sequence in
    let tag = c.args.tag in
    let same = left_is arm.fields.now c.rest.result.now arm.slots.items c.len.result c.rest.ensures (c.len.ensures ∙ arm.slots.ok.0) in
    subst (λ (parts : Parts). IfOk c.next_due.result (λ p. IsDue parts p.0 (ty_view p.1.now) × Contains (first_tags (ty_view p.1.now)) tag)) (sym (ap parts_view arm.is))
    (subst (λ (l : List ComponentView). IfOk c.next_due.result (λ p. IsNextOf l p.0 (ty_view p.1.now) × Contains (first_tags (ty_view p.1.now)) tag)) same c.next_due.ensures.value)

pub returns-in-Sequence-clause-never : goal.returns-in-Sequence-clause-never
returns-in-Sequence-clause-never c =
    let arm = c.in-Sequence in
    let tag = c.args.tag in
    let same = left_is arm.fields.now c.rest.result.now arm.slots.items c.len.result c.rest.ensures (c.len.ensures ∙ arm.slots.ok.0) in
    subst (λ (parts : Parts). IfErr c.next_due.result (λ (refusal : Refusal). (which : ℕ) (type : Shape) → IsDue parts which type → Contains (first_tags type) tag → ⊥)) (sym (ap parts_view arm.is))
    (subst (λ (l : List ComponentView). IfErr c.next_due.result (λ (refusal : Refusal). (which : ℕ) (type : Shape) → IsNextOf l which type → Contains (first_tags type) tag → ⊥)) same c.next_due.ensures.never)
