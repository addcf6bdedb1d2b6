use Rattle.std.proofs.Common.{◌≡◌, inl, inr, [], false, Err, ap, sym, subst, rules, append-nil, arith}
use Rattle.strict.specs.Head.{AreFewer, EndsHere, IsEndKnown}
use Rattle.strict.specs.Components.{EndsOrBegins}
use Rattle.strict.proofs.BarsLemmas.{refused_of, refused_by, refused_through}
use Rattle.strict.proofs.FrontLemmas.{tag_read}
use Rattle.strict.proofs.fronts.front_tag.Goals as goal

pub returns-in_err-ends-clause-refused : goal.returns-in_err-ends-clause-refused
returns-in_err-ends-clause-refused c = refused_through c.from_residual.result c.from_residual.ensures.1 (refused_by c.in_err-ends.ensures.refused (λ more h. elim h [ inl ends ↦ inl ends | inr t ↦ inr t.3 ]) (λ k. k))

pub returns-in_err-tag-clause-refused : goal.returns-in_err-tag-clause-refused
returns-in_err-tag-clause-refused c =
    let octets = c.args.octets.now in
    let d = c.args.definite in
    let room = c.args.room in
    let off : c.in_ok-ends.field-0 ≡ false = search rules in
    let goes : IsEndKnown false d room octets = subst (λ b. IsEndKnown b d room octets) off c.in_ok-ends.ensures.value in
    let why = c.in_err-tag.ensures in
    refused_through c.from_residual-in_err-tag.result c.from_residual-in_err-tag.ensures.1
    (refused_of (EndsOrBegins d room) (AreFewer d room) octets
    (λ same h. elim h [ inl ends ↦ goes [] (subst (EndsHere d room) (sym (append-nil octets)) ends) | inr t ↦ why.truncated (ap Err same) t.0 t.1 t.2 ])
    (λ same. let k = why.cut (ap Err same) in omega (arith, k.fits))
    (λ final more h. elim h [ inl ends ↦ goes more ends | inr t ↦ why.never final more t.0 t.1 t.2 ])
    why.numbers)

pub returns-clause-value : goal.returns-clause-value
returns-clause-value c =
    let octets = c.args.octets.now in
    let off : c.in_ok-ends.field-0 ≡ false = search rules in
    let goes : IsEndKnown false c.args.definite c.args.room octets = subst (λ b. IsEndKnown b c.args.definite c.args.room octets) off c.in_ok-ends.ensures.value in
    (tag_read c.in_ok-tag.tag c.in_ok-tag.field-0-1 c.args.room c.in_ok-tag.field-0-2 octets c.in_ok-tag.ensures.value, goes)
