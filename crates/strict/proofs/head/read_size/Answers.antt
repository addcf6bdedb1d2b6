use Rattle.std.proofs.Common.{◌≡◌, ◌-◌, ◌++◌, length, take, drop, false, Err, ap, sym, subst}
use Rattle.std.proofs.lemmas.List.{take_rest}
use Rattle.encoding_parts.specs.Cut.{IsLengthCut}
use Rattle.encoding_parts.specs.Head.{IsExtentWithin}
use Rattle.strict.proofs.BarsLemmas.{refused_of, refused_by, refused_through}
use Rattle.strict.proofs.head.read_size.Goals as goal

pub returns-in_err-size-clause-refused : goal.returns-in_err-size-clause-refused
returns-in_err-size-clause-refused c =
    let octets = c.args.octets.now in
    let i = c.args.identifier in
    let all : take (length octets - i) (drop i octets) ≡ drop i octets = take_rest octets i in
    let P = IsExtentWithin false c.args.room i in
    let C = IsLengthCut c.args.room i in
    let why = c.in_err-size.ensures in
    refused_through c.from_residual.result c.from_residual.ensures.1
    (refused_by (refused_of P C (take (length octets - i) (drop i octets)) (λ same. why.truncated (ap Err same)) (λ same. why.cut (ap Err same)) why.never why.numbers) (λ more h. subst (λ o. P (o ++ more)) (sym all) h) (λ k. subst C all k))
