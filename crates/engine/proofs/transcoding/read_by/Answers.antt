use Rattle.std.proofs.Common.{List, ℕ, ◌++◌, IfErr, sym, subst}
use Rattle.octets.specs.Front.{HasFront}
use Rattle.types.specs.Encoding.{IsSomeAccepted}
use Rattle.types.specs.Refusal.{IsFinal}
use Rattle.types.specs.View.{ty_view}
use Rattle.engine.specs.declared.rule.Rule.{Rule}
use Rattle.engine.specs.Rule.{rule_of}
use Rattle.engine.specs.Transcoding.{EndsInside}
use Rattle.engine.proofs.transcoding.read_by.Goals as goal

pub returns-in-Ber-clause-never : goal.returns-in-Ber-clause-never
returns-in-Ber-clause-never c =
    subst (λ (rule : Rule). IfErr c.read.result (λ refusal. IsFinal refusal → (more : List ℕ) → HasFront (IsSomeAccepted (rule_of rule) (ty_view c.args.ty.now)) (c.args.octets.now ++ more) → ⊥)) (sym c.in-Ber.is) c.read.ensures.never

pub returns-in-Cer-clause-never : goal.returns-in-Cer-clause-never
returns-in-Cer-clause-never c =
    subst (λ (rule : Rule). IfErr c.read_cer.result (λ refusal. IsFinal refusal → (more : List ℕ) → HasFront (IsSomeAccepted (rule_of rule) (ty_view c.args.ty.now)) (c.args.octets.now ++ more) → ⊥)) (sym c.in-Cer.is) c.read_cer.ensures.front.never

pub returns-in-Der-clause-never : goal.returns-in-Der-clause-never
returns-in-Der-clause-never c =
    subst (λ (rule : Rule). IfErr c.read_der.result (λ refusal. IsFinal refusal → (more : List ℕ) → HasFront (IsSomeAccepted (rule_of rule) (ty_view c.args.ty.now)) (c.args.octets.now ++ more) → ⊥)) (sym c.in-Der.is) c.read_der.ensures.front.never

pub returns-in-Ber-clause-begun : goal.returns-in-Ber-clause-begun
returns-in-Ber-clause-begun c = λ refused.
    subst (λ (rule : Rule). EndsInside (rule_of rule) (ty_view c.args.ty.now) c.args.octets.now) (sym c.in-Ber.is) (c.read.ensures.begun refused)

pub returns-in-Cer-clause-begun : goal.returns-in-Cer-clause-begun
returns-in-Cer-clause-begun c = λ refused.
    subst (λ (rule : Rule). EndsInside (rule_of rule) (ty_view c.args.ty.now) c.args.octets.now) (sym c.in-Cer.is) (c.read_cer.ensures.front.begun refused)

pub returns-in-Der-clause-begun : goal.returns-in-Der-clause-begun
returns-in-Der-clause-begun c = λ refused.
    subst (λ (rule : Rule). EndsInside (rule_of rule) (ty_view c.args.ty.now) c.args.octets.now) (sym c.in-Der.is) (c.read_der.ensures.front.begun refused)
