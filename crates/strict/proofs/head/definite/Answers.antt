use Rattle.std.proofs.Common.{◌≡◌, true, false, ◌-◌, ◌++◌, length, take, drop, Err, ap, sym, ◌∙◌, subst, rules, inl}
use Rattle.std.proofs.lemmas.List.{take_rest, length-take-le}
use Rattle.octets.specs.declared.canonical.Canonical.TheVariants.{Der}
use Rattle.octets.specs.Identifier.{IsIdentifier}
use Rattle.octets.proofs.FrontLemmas.{front_of_more}
use Rattle.types.proofs.NestingLemmas.{no_length-128}
use Rattle.encoding_parts.specs.Cut.{IsLengthCut}
use Rattle.encoding_parts.specs.Head.{IsExtentWithin, IsReadDefinite, IsReadIndefinite}
use Rattle.strict.proofs.BarsLemmas.{refused_of, refused_for_good, refused_by, refused_behind, refused_through}
use Rattle.strict.proofs.HeadLemmas.{tag_of_definite, form_of_definite, behind_identifier, its_length, shortest_of, definite_at}
use Rattle.strict.proofs.EndingLemmas.{length_cut}
use Rattle.strict.proofs.head.definite.Goals as goal

pub returns-in_err-constructed-clause-refused : goal.returns-in_err-constructed-clause-refused
returns-in_err-constructed-clause-refused c =
    refused_through c.from_residual.result c.from_residual.ensures.1
    (refused_by c.in_err-constructed.ensures.refused (λ more h. tag_of_definite c.args.tag true c.args.room (c.args.octets.now ++ more) h) (λ k. inl k))

pub returns-then-not-constructed-clause-refused : goal.returns-then-not-constructed-clause-refused
returns-then-not-constructed-clause-refused c = refused_for_good (tt, tt) (λ more h.
    let read = c.in_ok-constructed.ensures.value in
    let same = form_of_definite c.args.tag c.in_ok-constructed.constructed true c.args.room c.in_ok-constructed.identifier c.args.octets.now more read.tagged h in
    search rules)

pub returns-in_err-size-clause-refused : goal.returns-in_err-size-clause-refused
returns-in_err-size-clause-refused c =
    let octets = c.args.octets.now in
    let room = c.args.room in
    let i = c.in_ok-constructed.identifier in
    let read = c.in_ok-constructed.ensures.value in
    let form : c.in_ok-constructed.constructed ≡ true = search rules in
    let id = subst (λ f. IsIdentifier c.args.tag f (take i octets)) form read.tagged in
    let why = c.in_err-size.ensures in
    refused_through c.from_residual-in_err-size.result c.from_residual-in_err-size.ensures.1
    (refused_behind i
    (refused_of (IsExtentWithin true room i) (IsLengthCut room i) (take (length octets - i) (drop i octets)) (λ same. why.truncated (ap Err same)) (λ same. why.cut (ap Err same)) why.never why.numbers)
    (λ more h. (behind_identifier c.args.tag true room i octets more read.there id h).extent)
    (λ k. length_cut Der c.args.tag room i octets read.there id k))

pub returns-then-not-is_shortest-clause-refused : goal.returns-then-not-is_shortest-clause-refused
returns-then-not-is_shortest-clause-refused c = refused_for_good (tt, tt) (λ more h.
    let octets = c.args.octets.now in
    let i = c.in_ok-constructed.identifier in
    let n = c.in-Definite.size in
    let used = c.in-Definite.used in
    let tagged = c.in_ok-constructed.ensures.value in
    let form : c.in_ok-constructed.constructed ≡ true = search rules in
    let id = subst (λ f. IsIdentifier c.args.tag f (take i octets)) form tagged.tagged in
    let first = rw c.in-Definite.is at c.in_ok-size.ensures.value in
    let read : IsReadDefinite c.args.room i (drop i octets) n used = subst (λ x. IsReadDefinite c.args.room i x n used) (take_rest octets i) first in
    let b = behind_identifier c.args.tag true c.args.room i octets more tagged.there id h in
    let l = its_length n used (drop i octets) more h.whole.size h.contents h.rest read.sized h.whole.sized b.parts in
    let s = shortest_of n used (drop i octets) more h.whole.size h.contents h.rest l h.whole.sized in
    let told : true ≡ false = sym ((c.is_shortest.ensures (take used (drop i octets)) read.sized (length-take-le used (drop i octets) read.there)).1 s) ∙ c.if-not-is_shortest.true in
    absurd cc)

pub returns-else-not-is_shortest-clause-value : goal.returns-else-not-is_shortest-clause-value
returns-else-not-is_shortest-clause-value c =
    let octets = c.args.octets.now in
    let i = c.in_ok-constructed.identifier in
    let n = c.in-Definite.size in
    let used = c.in-Definite.used in
    let tagged = c.in_ok-constructed.ensures.value in
    let form : c.in_ok-constructed.constructed ≡ true = search rules in
    let id = subst (λ f. IsIdentifier c.args.tag f (take i octets)) form tagged.tagged in
    let first = rw c.in-Definite.is at c.in_ok-size.ensures.value in
    let read : IsReadDefinite c.args.room i (drop i octets) n used = subst (λ x. IsReadDefinite c.args.room i x n used) (take_rest octets i) first in
    let s = (c.is_shortest.ensures (take used (drop i octets)) read.sized (length-take-le used (drop i octets) read.there)).0 c.if-not-is_shortest.false in
    definite_at c.args.tag true i used n c.args.room octets tagged.there id read.there s read.fits

pub returns-in-Indefinite-clause-refused : goal.returns-in-Indefinite-clause-refused
returns-in-Indefinite-clause-refused c = refused_for_good (tt, tt) (λ more h.
    let octets = c.args.octets.now in
    let i = c.in_ok-constructed.identifier in
    let used = c.in-Indefinite.used in
    let tagged = c.in_ok-constructed.ensures.value in
    let form : c.in_ok-constructed.constructed ≡ true = search rules in
    let id = subst (λ f. IsIdentifier c.args.tag f (take i octets)) form tagged.tagged in
    let first = rw c.in-Indefinite.is at c.in_ok-size.ensures.value in
    let read : IsReadIndefinite true c.args.room i (drop i octets) used = subst (λ x. IsReadIndefinite true c.args.room i x used) (take_rest octets i) first in
    let b = behind_identifier c.args.tag true c.args.room i octets more tagged.there id h in
    no_length-128 (length h.contents) h.whole.size (h.contents ++ h.rest) (drop used (drop i octets) ++ more) h.whole.sized.form
    (sym (front_of_more used (drop i octets) more ∙ ap (λ x. x ++ (drop used (drop i octets) ++ more)) read.mark) ∙ b.parts))
