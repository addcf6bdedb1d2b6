use Rattle.std.proofs.Common.{◌≡◌, Err, ap, rules}
use Rattle.encoding_parts.specs.Cut.{IsIdentifierCut}
use Rattle.encoding_parts.specs.Head.{IsTagWithin}
use Rattle.encoding_parts.proofs.HeadLemmas.{tag_of_front}
use Rattle.strict.proofs.BarsLemmas.{refused_of, refused_through}
use Rattle.strict.proofs.head.read_its_tag.Goals as goal

pub returns-in_err-found-clause-refused : goal.returns-in_err-found-clause-refused
returns-in_err-found-clause-refused c =
    let tag = c.args.tag in
    let room = c.args.room in
    let why = c.in_err-found.ensures in
    refused_through c.from_residual.result c.from_residual.ensures.1
    (refused_of (IsTagWithin tag room 0) (IsIdentifierCut room 0) c.args.octets.now (λ same. why.truncated (ap Err same) tag c.requires) (λ same. why.cut (ap Err same)) (λ final more. why.never final more tag c.requires) why.numbers)

pub returns-then-ne-clause-refused : goal.returns-then-ne-clause-refused
returns-then-ne-clause-refused c =
    let different : c.in_ok-found.found ≡ c.args.tag → ⊥ = search rules in
    let read = c.in_ok-found.ensures.value in
    record { bars = λ more may h. different (tag_of_front c.in_ok-found.found c.args.tag c.in_ok-found.constructed c.args.room 0 c.in_ok-found.used c.args.octets.now more read.tagged h).tag; cut = search rules; numbers = search rules }
