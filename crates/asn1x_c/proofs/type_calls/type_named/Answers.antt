use Rattle.std.proofs.Common.{◌∙◌, List, ℕ, ap, subst, sym}
use Rattle.types.specs.View.{ty_view}
use Rattle.convert.specs.ModuleFile.{FileMeans}
use Rattle.asn1x_c.proofs.type_calls.type_named.Goals as goal

pub returns-in-Ok-new-clause-only : goal.returns-in-Ok-new-clause-only
returns-in-Ok-new-clause-only c = λ other means.
    c.in-Ok-type_from.ensures.only other (subst (λ (name : List ℕ). FileMeans c.args.text.now name other) (sym c.in-Ok.ensures.cases.0) means) ∙ ap ty_view (sym c.in-Ok-new.ensures.ok)

pub returns-clause-cycle : goal.returns-clause-cycle
returns-clause-cycle c = λ is type means.
    c.in-Err.ensures.cycle (sym c.of.ensures.number ∙ is) type (subst (λ (name : List ℕ). FileMeans c.args.text.now name type) (sym c.in-Ok.ensures.cases.0) means)
