use Rattle.std.proofs.Common.{◌≡◌, ℕ, List, ◌++◌, rules, subst}
use Rattle.types.specs.Refusal.{IsFinal}
use Rattle.octets.proofs.ResultLemmas.{IfErr-from}
use Rattle.encoding_parts.specs.Head.{IsTagWithin}
use Rattle.encoding_parts.proofs.HeadLemmas.{tag_of_front}
use Rattle.encoding_parts.proofs.head.read_tag.Goals as goal

pub returns-then-ne-clause-never : goal.returns-then-ne-clause-never
returns-then-ne-clause-never c = λ final more h.
    let different : c.in_ok-found.found ≡ c.args.tag → ⊥ = search rules in
    let read = c.in_ok-found.ensures.value in
    different (tag_of_front c.in_ok-found.found c.args.tag c.in_ok-found.constructed c.args.end c.args.taken c.in_ok-found.used c.args.octets.now more read.tagged h).tag

pub returns-in_err-found-clause-never : goal.returns-in_err-found-clause-never
returns-in_err-found-clause-never c =
    IfErr-from c.from_residual.result _ (λ refusal. IsFinal refusal → (more : List ℕ) → IsTagWithin c.args.tag c.args.end c.args.taken (c.args.octets.now ++ more) → ⊥) c.from_residual.ensures.1
    (λ refusal same final more h. c.in_err-found.ensures.never (subst IsFinal same final) more c.args.tag c.requires h)
