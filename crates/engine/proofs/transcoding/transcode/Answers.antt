use Rattle.std.proofs.Common.{◌≡◌, [], ◌++◌, take, sym, ◌∙◌, ap, subst, append-nil, Err, inl, inr}
use Rattle.std.proofs.lemmas.List.{take_all}
use Rattle.octets.specs.Front.{HasFront, Begins}
use Rattle.types.specs.Encoding.{IsAccepted, IsSomeAccepted}
use Rattle.types.specs.Refusal.{IsFinal}
use Rattle.types.specs.View.{ty_view, value_view}
use Rattle.engine.specs.Rule.{rule_of, canonical_rule_of}
use Rattle.octets.proofs.ResultLemmas.{IfErr-from, Err-known, Err-same}
use Rattle.octets.proofs.FrontLemmas.{HasFront-whole}
use Rattle.engine.proofs.TranscodingLemmas.{cases_of_reading, front_is_whole, none_left_over, accepted_of}
use Rattle.types.proofs.EncodedLemmas.{encoded_conforms}
use Rattle.engine.proofs.transcoding.transcode.Goals as goal

pub returns-in_err-value-clause-truncated : goal.returns-in_err-value-clause-truncated
returns-in_err-value-clause-truncated c = λ refused h.
    let octets = c.args.octets.now in
    let known = Err-known c.from_residual.result _ _ refused c.from_residual.ensures.1 in
    c.in_err-value.ensures.truncated (ap Err (sym known)) (HasFront-whole (IsSomeAccepted (rule_of c.args.from) (ty_view c.args.ty.now)) octets h)

pub returns-in_err-value-clause-begun : goal.returns-in_err-value-clause-begun
returns-in_err-value-clause-begun c = λ refused.
    c.in_err-value.ensures.begun (ap Err (sym (Err-known c.from_residual.result _ _ refused c.from_residual.ensures.1)))

pub returns-in_err-value-clause-never : goal.returns-in_err-value-clause-never
returns-in_err-value-clause-never c =
    let Some = IsSomeAccepted (rule_of c.args.from) (ty_view c.args.ty.now) in
    let octets = c.args.octets.now in
    IfErr-from c.from_residual.result _ (λ refusal. IsFinal refusal → Begins Some octets → ⊥) c.from_residual.ensures.1
    (λ refusal same final h. c.in_err-value.ensures.never (subst IsFinal same final) h.0 (HasFront-whole Some (octets ++ h.0) h.1))

pub returns-in_err-value-clause-limit : goal.returns-in_err-value-clause-limit
returns-in_err-value-clause-limit c = λ h.
    let Some = IsSomeAccepted (rule_of c.args.from) (ty_view c.args.ty.now) in
    let octets = c.args.octets.now in
    let front = HasFront-whole Some octets (h.value, h.read) in
    elim (cases_of_reading (rule_of c.args.from) c.in_err-value.field-0.0 c.in_err-value.ensures.numbers) [
      | inl truncated ↦ absurd (c.in_err-value.ensures.truncated (ap Err truncated) front)
      | inr other ↦ elim other [
        | inl final ↦ absurd (c.in_err-value.ensures.never final [] (subst (HasFront Some) (sym (append-nil octets)) front))
        | inr memory ↦ inr (Err-same c.from_residual.result _ c.from_residual.ensures.1 ∙ ap Err memory)
      ]
    ]

pub returns-then-used-octets-clause-never : goal.returns-then-used-octets-clause-never
returns-then-used-octets-clause-never c = λ u h.
    none_left_over c.args.from (ty_view c.args.ty.now) (value_view c.in_ok-value.value) c.in_ok-value.used c.args.octets.now h.0 c.in_ok-value.ensures.well_formed c.if-used-octets.true c.in_ok-value.ensures.value.1 h.1

pub returns-then-used-octets-clause-limit : goal.returns-then-used-octets-clause-limit
returns-then-used-octets-clause-limit c = λ h.
    let shape = ty_view c.args.ty.now in
    let octets = c.args.octets.now in
    let whole : IsSomeAccepted (rule_of c.args.from) shape (octets ++ []) = (h.value, subst (IsAccepted (rule_of c.args.from) shape h.value) (sym (append-nil octets)) h.read) in
    absurd (none_left_over c.args.from shape (value_view c.in_ok-value.value) c.in_ok-value.used octets [] c.in_ok-value.ensures.well_formed c.if-used-octets.true c.in_ok-value.ensures.value.1 whole)

pub returns-clause-limit : goal.returns-clause-limit
returns-clause-limit c = λ h.
    let shape = ty_view c.args.ty.now in
    let octets = c.args.octets.now in
    let v = value_view c.in_ok-value.value in
    let put = c.in_ok-put.ensures.appended in
    let whole : IsSomeAccepted (rule_of c.args.from) shape (octets ++ []) = (h.value, subst (IsAccepted (rule_of c.args.from) shape h.value) (sym (append-nil octets)) h.read) in
    let same = front_is_whole c.args.from shape v c.in_ok-value.used octets [] c.in_ok-value.ensures.well_formed c.in_ok-value.ensures.value.0 c.in_ok-value.ensures.value.1 whole in
    absurd (h.none put.0 (accepted_of (canonical_rule_of c.args.to) shape v h.value put.0 c.in_ok-value.ensures.well_formed same.1 put.2))

pub put-requires : goal.put-requires
put-requires c =
    encoded_conforms (rule_of c.args.from) (ty_view c.args.ty.now) (value_view c.in_ok-value.value) _ c.in_ok-value.ensures.value.1.encoding

pub returns-in_err-put-clause-too_long : goal.returns-in_err-put-clause-too_long
returns-in_err-put-clause-too_long c = λ refused.
    let shape = ty_view c.args.ty.now in
    let octets = c.args.octets.now in
    let v = value_view c.in_ok-value.value in
    let known = Err-known c.from_residual-in_err-put.result _ _ refused c.from_residual-in_err-put.ensures.1 in
    let all : take c.in_ok-value.used octets ≡ octets = take_all c.in_ok-value.used octets c.if-used-octets.false in
    record {
      value = v;
      read = subst (IsAccepted (rule_of c.args.from) shape v) all c.in_ok-value.ensures.value.1;
      none = c.in_err-put.ensures.too_long (ap Err (sym known));
    }
