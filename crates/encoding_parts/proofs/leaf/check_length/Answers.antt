use Rattle.std.proofs.Common.{◌≡◌, ◌∷◌, false, true, inl, take, drop, ◌++◌, sym, ◌∙◌, ap, subst}
use Rattle.octets.specs.Length.{IsSomeLength}
use Rattle.octets.proofs.FrontLemmas.{front_of_more, whole_front, HasFront-from_parts}
use Rattle.octets.proofs.LengthLemmas.{length_unique}
use Rattle.types.specs.View.{ty_view}
use Rattle.types.proofs.NestingLemmas.{no_length-128}
use Rattle.encoding_parts.specs.Lengths.{CanHaveLength}
use Rattle.encoding_parts.proofs.leaf.check_length.Goals as goal

pub returns-then-can_have_length-clause-can : goal.returns-then-can_have_length-clause-can
returns-then-can_have_length-clause-can c = λ ok size rest contents within sized is.
    let octets = c.args.octets.now in
    let used = c.in-Definite.used in
    let same = length_unique c.in-Definite.size contents (take used octets) size (drop used octets) rest c.in-Definite.ensures.form sized (sym (whole_front used octets) ∙ is) in
    subst (CanHaveLength (ty_view c.args.ty.now)) same.value (c.can_have_length.ensures.0 c.if-can_have_length.true)

pub returns-else-can_have_length-clause-never : goal.returns-else-can_have_length-clause-never
returns-else-can_have_length-clause-never c = λ err more size rest contents sized is can.
    let octets = c.args.octets.now in
    let used = c.in-Definite.used in
    let same = length_unique c.in-Definite.size contents (take used octets) size (drop used octets ++ more) rest c.in-Definite.ensures.form sized (sym (front_of_more used octets more) ∙ is) in
    let told : false ≡ true = sym c.if-can_have_length.false ∙ c.can_have_length.ensures.1 (subst (CanHaveLength (ty_view c.args.ty.now)) (sym same.value) can) in
    cc

pub returns-in-Indefinite-clause-can : goal.returns-in-Indefinite-clause-can
returns-in-Indefinite-clause-can c = λ ok size rest contents within sized is.
    let octets = c.args.octets.now in
    let used = c.in-Indefinite.used in
    let mark : octets ≡ 128 ∷ drop used octets = whole_front used octets ∙ ap (λ o. o ++ drop used octets) c.in-Indefinite.ensures.1 in
    absurd (no_length-128 contents size rest (drop used octets) sized (sym mark ∙ is))

pub returns-in-More-clause-can : goal.returns-in-More-clause-can
returns-in-More-clause-can c = λ ok size rest contents within sized is.
    absurd (c.in-More.ensures.0 (HasFront-from_parts IsSomeLength size rest c.args.octets.now is (inl (contents, within, sized))))

pub returns-in-Bad-clause-can : goal.returns-in-Bad-clause-can
returns-in-Bad-clause-can c = λ ok size rest contents within sized is.
    absurd (c.in-Bad.ensures.0 (HasFront-from_parts IsSomeLength size rest c.args.octets.now is (inl (contents, within, sized))))
