use Rattle.std.proofs.Common.{◌≡◌, ◌<◌, ◌+◌, ◌++◌, ◌∙◌, length, take, set, get_or, Ok, ap, sym, arith, subst}
use Rattle.std.proofs.lemmas.List.{take_all}
use Rattle.cutting.specs.Heads.{AnswersHead}
use Rattle.cutting.proofs.StateLemmas.{refused, outside_never, opened_moved, cut_head, cut_never, held_none, held_on, opens_same}
use Rattle.cutting.proofs.ends.Ends.take_cut_head.Goals as goal

pub returns-in_err-found : goal.returns-in_err-found
returns-in_err-found c =
    let ends = c.loop-place.self in
    let octets = c.args.octets.now in
    let place = c.loop-place.place in
    let room : ends.count < length ends.head = omega arith in
    let here : place < length octets = omega arith in
    let said = c.in_err-found.ensures in
    refused _ _ _ c.from_residual.result _ c.from_residual.ensures.1 (said.0, λ long. cut_never c.args.self.now ends octets place c.requires room here c.loop-place.invariant.held said.2, λ is. absurd (said.1 is))

pub returns-in_err-open-in-Some : goal.returns-in_err-open-in-Some
returns-in_err-open-in-Some c =
    let old = c.args.self.now in
    let ends = c.loop-place.self in
    let octets = c.args.octets.now in
    let place = c.loop-place.place in
    let found = c.in-Some.found in
    let room : ends.count < length ends.head = omega arith in
    let here : place < length octets = omega arith in
    let read = subst (λ f. AnswersHead (take (ends.count + 1) (set ends.head ends.count (get_or octets place 0))) (Ok f)) c.in-Some.is c.in_ok-found.ensures in
    let is = cut_head found.opened ends octets (take old.count old.head) place found.used room here c.loop-place.invariant.held read.0 read.1 in
    let said = c.in_err-open-in-Some.ensures in
    refused _ _ _ c.from_residual-in_err-open-in-Some.result _ c.from_residual-in_err-open-in-Some.ensures.1
    (said.0, λ other. (let outside = said.1 other in outside_never found.opened old (place + 1) octets c.requires is (outside.0, sym c.loop-place.invariant.same ∙ outside.1)), λ other. (let large = said.2 other in omega (arith, large)))

pub returns-in-Some : goal.returns-in-Some
returns-in-Some c =
    let old = c.args.self.now in
    let new = c.open.new.self in
    let ends = c.loop-place.self in
    let octets = c.args.octets.now in
    let place = c.loop-place.place in
    let found = c.in-Some.found in
    let room : ends.count < length ends.head = omega arith in
    let here : place < length octets = omega arith in
    let read = subst (λ f. AnswersHead (take (ends.count + 1) (set ends.head ends.count (get_or octets place 0))) (Ok f)) c.in-Some.is c.in_ok-found.ensures in
    let is = cut_head found.opened ends octets (take old.count old.head) place found.used room here c.loop-place.invariant.held read.0 read.1 in
    let said = c.in_ok-open-in-Some.ensures in
    let opens = opens_same found.opened old _ new (c.loop-place.invariant.left ∙ sym c.requires) c.loop-place.invariant.same said.0 in
    (omega arith, omega arith, opened_moved found.opened old new (take (place + 1) octets) c.requires said.1 is opens, omega (arith, said.1, said.2))

pub returns : goal.returns
returns c =
    let old = c.args.self.now in
    let ends = c.loop-place.self in
    let octets = c.args.octets.now in
    let held : take ends.count ends.head ≡ take old.count old.head ++ octets = c.loop-place.invariant.held ∙ ap (λ x. take old.count old.head ++ x) (take_all c.loop-place.place octets (omega arith)) in
    (c.loop-place.invariant.left, held_on old ends octets c.requires c.loop-place.invariant.left c.loop-place.invariant.same held, held_none old ends octets c.requires held, record { count = omega arith; same = (c.loop-place.invariant.passed, c.loop-place.invariant.same, c.loop-place.invariant.left ∙ sym c.requires) })
