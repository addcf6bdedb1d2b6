use Rattle.std.proofs.Common.{refl, ap, ◌∙◌}
use Rattle.syntax.specs.declared.tree.DefaultValue.TheVariants as written
use Rattle.types.specs.Shape.{SimpleType, SimpleValue, Val}
use Rattle.types.proofs.ViewLemmas.{value-Integer}
use Rattle.builtin_types.specs.Numbering.{number_of}
use Rattle.builtin_types.proofs.EntryLemmas.{kept_number}
use Rattle.builtin_types.proofs.TakenLemmas.{simple_at}
use Rattle.builtin_types.proofs.defaults.integer.Goals as goal

pub returns-in_ok-number_of-in-Number : goal.returns-in_ok-number_of-in-Number
returns-in_ok-number_of-in-Number c =
    let signed = c.in-Number.signed in
    let told = c.in_ok-number_of-in-Number.ensures.some in
    simple_at SimpleType.integer c.args.written.now (written.Number signed) _ (SimpleValue.integer (number_of signed)) c.in-Number.is (told.1, refl)
    (value-Integer _ ∙ ap (λ n. Val.simple (SimpleValue.integer n)) (kept_number c.in_ok-number_of-in-Number.field-0 (number_of signed) told))
