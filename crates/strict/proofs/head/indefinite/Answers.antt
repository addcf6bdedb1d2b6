use Rattle.std.proofs.Common.{◌≡◌, ◌-◌, ◌∷◌, ◌++◌, length, take, drop, true, Err, ap, sym, ◌∙◌, subst, rules, inl}
use Rattle.std.proofs.lemmas.List.{take_rest}
use Rattle.octets.specs.declared.canonical.Canonical.TheVariants.{Cer}
use Rattle.octets.specs.Identifier.{IsIdentifier}
use Rattle.octets.proofs.FrontLemmas.{front_of_more}
use Rattle.types.proofs.NestingLemmas.{no_length-128}
use Rattle.encoding_parts.specs.Cut.{IsLengthCut}
use Rattle.encoding_parts.specs.Head.{IsExtentWithin, IsReadDefinite, IsReadIndefinite}
use Rattle.strict.proofs.BarsLemmas.{refused_of, refused_for_good, refused_by, refused_behind, refused_through}
use Rattle.strict.proofs.InsideLemmas.{tag_of_indefinite, form_of_indefinite, behind_indefinite, opened_indefinite}
use Rattle.strict.proofs.EndingLemmas.{length_cut}
use Rattle.strict.proofs.head.indefinite.Goals as goal

pub returns-in_err-form-clause-refused : goal.returns-in_err-form-clause-refused
returns-in_err-form-clause-refused c =
    refused_through c.from_residual.result c.from_residual.ensures.1
    (refused_by c.in_err-form.ensures.refused (λ more h. tag_of_indefinite c.args.tag c.args.room (c.args.octets.now ++ more) h) (λ k. inl k))

pub returns-then-not-form-clause-refused : goal.returns-then-not-form-clause-refused
returns-then-not-form-clause-refused c = refused_for_good (tt, tt) (λ more h.
    let read = c.in_ok-form.ensures.value in
    let same = form_of_indefinite c.args.tag c.in_ok-form.form c.args.room c.in_ok-form.identifier c.args.octets.now more read.tagged h in
    search rules)

pub returns-in_err-used-clause-refused : goal.returns-in_err-used-clause-refused
returns-in_err-used-clause-refused c =
    let octets = c.args.octets.now in
    let room = c.args.room in
    let i = c.in_ok-form.identifier in
    let read = c.in_ok-form.ensures.value in
    let form : c.in_ok-form.form ≡ true = search rules in
    let id = subst (λ f. IsIdentifier c.args.tag f (take i octets)) form read.tagged in
    let why = c.in_err-used.ensures in
    refused_through c.from_residual-in_err-used.result c.from_residual-in_err-used.ensures.1
    (refused_behind i
    (refused_of (IsExtentWithin true room i) (IsLengthCut room i) (take (length octets - i) (drop i octets)) (λ same. why.truncated (ap Err same)) (λ same. why.cut (ap Err same)) why.never why.numbers)
    (λ more h. (behind_indefinite c.args.tag room i octets more read.there id h).extent)
    (λ k. length_cut Cer c.args.tag room i octets read.there id k))

pub returns-in-Indefinite-clause-value : goal.returns-in-Indefinite-clause-value
returns-in-Indefinite-clause-value c =
    let octets = c.args.octets.now in
    let i = c.in_ok-form.identifier in
    let used = c.in-Indefinite.used in
    let tagged = c.in_ok-form.ensures.value in
    let form : c.in_ok-form.form ≡ true = search rules in
    let first = rw c.in-Indefinite.is at c.in_ok-used.ensures.value in
    let read : IsReadIndefinite true c.args.room i (drop i octets) used = subst (λ x. IsReadIndefinite true c.args.room i x used) (take_rest octets i) first in
    opened_indefinite c.args.tag c.args.room i used octets tagged.there (subst (λ f. IsIdentifier c.args.tag f (take i octets)) form tagged.tagged) read

pub returns-in-Definite-clause-refused : goal.returns-in-Definite-clause-refused
returns-in-Definite-clause-refused c = refused_for_good (tt, tt) (λ more h.
    let octets = c.args.octets.now in
    let i = c.in_ok-form.identifier in
    let used = c.in-Definite.used in
    let n = c.in-Definite.octets in
    let tagged = c.in_ok-form.ensures.value in
    let form : c.in_ok-form.form ≡ true = search rules in
    let first = rw c.in-Definite.is at c.in_ok-used.ensures.value in
    let read : IsReadDefinite c.args.room i (drop i octets) n used = subst (λ x. IsReadDefinite c.args.room i x n used) (take_rest octets i) first in
    let b = behind_indefinite c.args.tag c.args.room i octets more tagged.there (subst (λ f. IsIdentifier c.args.tag f (take i octets)) form tagged.tagged) h in
    no_length-128 n (take used (drop i octets)) (drop used (drop i octets) ++ more) (h.contents ++ (0 ∷ 0 ∷ h.rest)) read.sized (sym b.parts ∙ front_of_more used (drop i octets) more))
