use Rattle.std.proofs.Common.{◌+◌, List, Option, subst, drop, arith}
use Rattle.std.proofs.lemmas.List.{length-drop}
use Rattle.types.specs.View.{ty_view}
use Rattle.types.specs.declared.value.Value.{Value}
use Rattle.encoding_parts.specs.HeldParts.{members_view}
use Rattle.encoding_parts.specs.Parts.{IsVacant}
use Rattle.encoding_parts.proofs.SetComponentLemmas.{NoneDue, members_in_fields, members_rest, none_in_both, vacant_before, vacant_behind, vacant_below}
use Rattle.encoding_parts.proofs.set_components.SetComponents.due_anywhere.Goals as goal

pub overflow_add-result : goal.overflow_add-result
overflow_add-result c =
    let fields = c.args.self.now.fields.now in
    let slots = c.as_slice-slots.result.now in
    let start = c.min-start.result in
    let found = rw (members_rest fields slots start) at c.in-Some.ensures in
    let below = vacant_below (members_view (drop start fields) (drop start slots)) c.in-Some.place (ty_view c.in-Some.ty.now) found.0 in
    omega (arith, below, members_in_fields (drop start fields) (drop start slots), length-drop start fields)

pub returns-in-Some-clause-value : goal.returns-in-Some-clause-value
returns-in-Some-clause-value c =
    let fields = c.args.self.now.fields.now in
    let slots = c.as_slice-slots.result.now in
    let start = c.min-start.result in
    let type = ty_view c.in-Some.ty.now in
    let found = rw (members_rest fields slots start) at c.in-Some.ensures in (
      subst (λ (l : List (Option Value)). IsVacant (members_view fields l) (start + c.in-Some.place) type) c.as_slice-slots.ensures.value
          (vacant_behind fields slots start c.in-Some.place type (omega arith) (omega arith) found.0),
      found.1,
    )

pub returns-in-Some-vacant-clause-value : goal.returns-in-Some-vacant-clause-value
returns-in-Some-vacant-clause-value c =
    let fields = c.args.self.now.fields.now in
    let slots = c.as_slice-slots.result.now in
    let type = ty_view c.in-Some-vacant.found.1.now in
    let found = c.in-Some-vacant.ensures in (
      subst (λ (l : List (Option Value)). IsVacant (members_view fields l) c.in-Some-vacant.found.0 type) c.as_slice-slots.ensures.value
          (vacant_before fields slots c.min-start.result c.in-Some-vacant.found.0 type found.0),
      found.1,
    )

pub returns-in-None-clause-never : goal.returns-in-None-clause-never
returns-in-None-clause-never c =
    let fields = c.args.self.now.fields.now in
    let slots = c.as_slice-slots.result.now in
    let start = c.min-start.result in
    let behind = rw (members_rest fields slots start) at c.in_default.ensures in
    subst (λ (l : List (Option Value)). NoneDue c.args.tag (members_view fields l)) c.as_slice-slots.ensures.value
    (none_in_both c.args.tag fields slots start c.in-None.ensures behind)
