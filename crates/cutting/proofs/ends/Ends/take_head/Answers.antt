use Rattle.std.proofs.Common.{◌≡◌, ◌∙◌, take, Ok, arith, subst}
use Rattle.cutting.specs.Heads.{AnswersHead}
use Rattle.cutting.proofs.StateLemmas.{refused, head_never, held_head, outside_never, opened_moved, some_used}
use Rattle.cutting.proofs.ends.Ends.take_head.Goals as goal

pub returns-in_err-found : goal.returns-in_err-found
returns-in_err-found c =
    let old = c.args.self.now in
    let octets = c.args.octets.now in
    let left : old.left ≡ 0 = omega arith in
    let count : old.count ≡ 0 = omega arith in
    let said = c.in_err-found.ensures in
    refused _ _ _ c.from_residual.result _ c.from_residual.ensures.1 (said.0, λ long. head_never old octets left count said.2, λ is. absurd (said.1 is))

pub returns-in_err-open-in-Some : goal.returns-in_err-open-in-Some
returns-in_err-open-in-Some c =
    let old = c.args.self.now in
    let octets = c.args.octets.now in
    let left : old.left ≡ 0 = omega arith in
    let count : old.count ≡ 0 = omega arith in
    let read = subst (λ f. AnswersHead octets (Ok f)) c.in-Some.is c.in_ok-found.ensures in
    let said = c.in_err-open-in-Some.ensures in
    let found = c.in-Some.found in
    refused _ _ _ c.from_residual-in_err-open-in-Some.result _ c.from_residual-in_err-open-in-Some.ensures.1
    (said.0, λ other. outside_never found.opened old found.used octets left (held_head found.opened old found.used octets count read.1) (said.1 other), λ is. (let large = said.2 is in omega (arith, large, read.0)))

pub returns-in_ok-open-in-Some : goal.returns-in_ok-open-in-Some
returns-in_ok-open-in-Some c =
    let old = c.args.self.now in
    let new = c.open.new.self in
    let octets = c.args.octets.now in
    let left : old.left ≡ 0 = omega arith in
    let count : old.count ≡ 0 = omega arith in
    let read = subst (λ f. AnswersHead octets (Ok f)) c.in-Some.is c.in_ok-found.ensures in
    let said = c.in_ok-open-in-Some.ensures in
    let found = c.in-Some.found in
    let some = some_used found.opened found.used octets read.1 in
    (omega arith, read.0, opened_moved found.opened old new (take found.used octets) left (said.1 ∙ count) (held_head found.opened old found.used octets count read.1) said.0, omega (arith, said.1, said.2))
