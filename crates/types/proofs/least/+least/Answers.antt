use Rattle.std.specs.List.{AllByRecursion}
use Rattle.std.proofs.Common.{◌≡◌, ◌∙◌, ◌+◌, ◌-◌, ◌<◌, ◌≤◌, List, length, get_or, sym, ap, subst, arith, rules}
use Rattle.octets.specs.declared.tag.Tag.{Tag}
use Rattle.types.specs.declared.ty.Alternative.{Alternative}
use Rattle.types.specs.declared.ty.Ty as node
use Rattle.types.specs.declared.ty.Alternative as alternative
use Rattle.types.specs.Shape.{Shape}
use Rattle.types.specs.FirstTags.{first_tags, tags_of_alternatives}
use Rattle.types.specs.Order.{IsLeast}
use Rattle.types.specs.View.{ty_view, alternatives_view}
use Rattle.types.specs.WellFormed.{nodes_of, IsNodeWithin}
use Rattle.types.proofs.ViewLemmas.{ty-Choice}
use Rattle.types.proofs.FirstTagLemmas.{LeastFrom, alternative_within, least_last, least_sooner, least_stays, as_many_alternatives}
use Rattle.types.proofs.least.+least.Goals as goal
use Rattle.types.proofs.least.+least.Goals.{least_of-then-comes_before, least_of-else-comes_before}

some_alternative : (xs : List Alternative) → AllByRecursion IsNodeWithin (nodes_of (Shape.choice (alternatives_view xs))) → 1 ≤ length xs
some_alternative xs good = omega (arith, good.0.0, as_many_alternatives xs)

pub least_tag-returns : goal.least_tag-returns
least_tag-returns t c =
    let is = ap ty_view c.in-Choice.is ∙ ty-Choice c.in-Choice.alternatives in
    subst (λ (s : Shape). IsLeast (first_tags s) c.least_of.result) (sym is) (subst (λ (xs : List Alternative). IsLeast (tags_of_alternatives (alternatives_view xs)) c.least_of.result) c.deref.ensures.value c.least_of.ensures)

pub least_of-least_tag-least-requires : goal.least_of-least_tag-least-requires
least_of-least_tag-least-requires t c =
    let xs = c.args.alternatives.now in
    let place = length xs - 1 in
    let a = c.index-alternatives-last.result in
    let at : a ≡ get_or xs place a = c.index-alternatives-last.is in
    let bound : place < length xs = omega (arith, some_alternative xs c.requires) in
    (search (rules, node.the_lemmas, alternative.the_lemmas, bound, at), subst (λ (b : Alternative). AllByRecursion IsNodeWithin (nodes_of (ty_view b.ty))) at (alternative_within xs place a bound at c.requires.1))

pub least_of-least_tag-tag-requires : goal.least_of-least_tag-tag-requires
least_of-least_tag-tag-requires t c =
    let xs = c.args.alternatives.now in
    let place = length xs - 1 - 1 - c.loop-done.done in
    let a = c.index-alternatives-last-in-loop-done.result in
    let at : a ≡ get_or xs place a = c.index-alternatives-last-in-loop-done.is in
    let bound : place < length xs = omega (arith, some_alternative xs c.requires) in
    (search (rules, node.the_lemmas, alternative.the_lemmas, bound, at), subst (λ (b : Alternative). AllByRecursion IsNodeWithin (nodes_of (ty_view b.ty))) at (alternative_within xs place a bound at c.requires.1))

pub least_of-loop-done-init : goal.least_of-loop-done-init
least_of-loop-done-init t c =
    let xs = c.args.alternatives.now in
    let place = length xs - 1 in
    let a = c.index-alternatives-last.result in
    let at : a ≡ get_or xs place a = c.index-alternatives-last.is in
    let none : place ≡ place - 0 = omega arith in
    let some = some_alternative xs c.requires in
    subst (λ k. LeastFrom xs k c.least_tag-least.result) none
    (least_last xs place a c.least_tag-least.result (omega (arith, some)) (omega (arith, some)) at (subst (λ (b : Alternative). IsLeast (first_tags (ty_view b.ty)) c.least_tag-least.result) (sym at) c.least_tag-least.ensures))

pub least_of-loop-done-preserved : goal.least_of-loop-done-preserved
least_of-loop-done-preserved t c =
    let xs = c.args.alternatives.now in
    let i = length xs - 1 - (c.loop-done.done + 1) in
    let j = length xs - 1 - c.loop-done.done in
    let a = c.index-alternatives-last-in-loop-done.result in
    let place : length xs - 1 - 1 - c.loop-done.done ≡ i = omega arith in
    let at : a ≡ get_or xs i a = c.index-alternatives-last-in-loop-done.is ∙ ap (λ k. get_or xs k a) place in
    let tag = c.least_tag-tag.result in
    let here : IsLeast (first_tags (ty_view a.ty)) tag = subst (λ (b : Alternative). IsLeast (first_tags (ty_view b.ty)) tag) (sym c.index-alternatives-last-in-loop-done.is) c.least_tag-tag.ensures in
    elim c.if-comes_before.branch [
      | least_of-then-comes_before w ↦
          subst (λ (x : Tag). LeastFrom xs i x) (sym w.least-is) (least_sooner xs i j a tag c.loop-done.least (omega arith) (omega arith) at here c.loop-done.invariant (c.comes_before.ensures.0 w.if-comes_before.true))
      | least_of-else-comes_before w ↦
          subst (λ (x : Tag). LeastFrom xs i x) (sym w.least-is) (least_stays xs i j a tag c.loop-done.least (omega arith) (omega arith) at here c.loop-done.invariant (λ before. let yes = c.comes_before.ensures.1 before in let no = w.if-comes_before.false in absurd (cc)))
    ]

pub least_of-returns : goal.least_of-returns
least_of-returns t c =
    let none_left : length c.args.alternatives.now - 1 - c.loop-done.done ≡ 0 = omega arith in
    subst (λ k. LeastFrom c.args.alternatives.now k c.loop-done.least) none_left c.loop-done.invariant
