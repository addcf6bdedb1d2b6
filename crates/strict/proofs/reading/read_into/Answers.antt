use Rattle.std.proofs.Common.{ℕ, List, ◌++◌, IfErr, refl, subst}
use Rattle.std.proofs.lemmas.Result.{IfOk-weaker, IfErr-at_err, IfErr-weaker}
use Rattle.octets.specs.Front.{HasFront}
use Rattle.octets.specs.Rule.{rule_of}
use Rattle.types.specs.declared.refusal.Refusal.TheVariants.{Truncated}
use Rattle.types.specs.Encoding.{IsSomeAccepted}
use Rattle.types.specs.Refusal.{IsFinal}
use Rattle.types.specs.View.{ty_view}
use Rattle.strict.specs.Begun.{IsBegun}
use Rattle.strict.specs.Reading.{IsRead, HasPart, RefusesPart}
use Rattle.strict.proofs.BarsLemmas.{bars_cut, bars_never}
use Rattle.strict.proofs.FrontLemmas.{canonical_of}
use Rattle.strict.proofs.StrictLemmas.{part_of_front, accepted, only_that}
use Rattle.strict.proofs.reading.read_into.Goals as goal

pub returns-clause-value : goal.returns-clause-value
returns-clause-value c = IfOk-weaker c.read_one.result _ _
    (λ used read.
    let rule = rule_of c.args.rule in
    let v = c.read_one.new.value in
    let octets = c.args.octets.now in
    accepted rule (ty_view c.args.ty.now) v octets used c.as_type.ensures.well_formed (canonical_of c.args.rule) (subst (λ t. IsRead rule (ty_view t) 1_048_576 octets v used) c.as_type.ensures.value read))
    c.read_one.ensures.value

pub returns-clause-only : goal.returns-clause-only
returns-clause-only c = IfOk-weaker c.read_one.result _ _
    (λ used read.
    let rule = rule_of c.args.rule in
    let v = c.read_one.new.value in
    let octets = c.args.octets.now in
    λ w n there h. only_that rule (ty_view c.args.ty.now) v w octets used n c.as_type.ensures.well_formed (subst (λ t. IsRead rule (ty_view t) 1_048_576 octets v used) c.as_type.ensures.value read) there h)
    c.read_one.ensures.value

pub returns-clause-truncated : goal.returns-clause-truncated
returns-clause-truncated c = λ same f.
    let rule = rule_of c.args.rule in
    let shape = ty_view c.args.ty.now in
    let octets = c.args.octets.now in
    let refused = IfErr-at_err (RefusesPart c.args.rule shape 1_048_576 octets) same (subst (λ t. IfErr c.read_one.result (RefusesPart c.args.rule (ty_view t) 1_048_576 octets)) c.as_type.ensures.value c.read_one.ensures.refused) in
    bars_cut Truncated (HasPart rule shape 1_048_576) octets refused.bars refl (part_of_front rule shape octets f)

pub returns-clause-begun : goal.returns-clause-begun
returns-clause-begun c = λ same.
    let octets = c.args.octets.now in
    let refused = IfErr-at_err (RefusesPart c.args.rule (ty_view c.as_type.result.now) 1_048_576 octets) same c.read_one.ensures.refused in
    subst (λ t. IsBegun c.args.rule (ty_view t) 1_048_576 octets) c.as_type.ensures.value (refused.cut refl)

pub returns-clause-never : goal.returns-clause-never
returns-clause-never c =
    let rule = rule_of c.args.rule in
    let shape = ty_view c.args.ty.now in
    let octets = c.args.octets.now in
    IfErr-weaker c.read_one.result (RefusesPart c.args.rule shape 1_048_576 octets) (λ refusal. IsFinal refusal → (more : List ℕ) → HasFront (IsSomeAccepted rule shape) (octets ++ more) → ⊥)
    (λ refusal refused final more f. bars_never refusal (HasPart rule shape 1_048_576) octets refused.bars final more (part_of_front rule shape (octets ++ more) f))
    (subst (λ t. IfErr c.read_one.result (RefusesPart c.args.rule (ty_view t) 1_048_576 octets)) c.as_type.ensures.value c.read_one.ensures.refused)
