use Rattle.std.proofs.Common.{◌≡◌, ◌∙◌, ◌<◌, ap, sym, subst, arith, List, [], ℕ, length, get_or, Vec, Global}
use Rattle.std.specs.Prelude.{OnOk}
use Rattle.std.proofs.lemmas.Bool.{ltb-true, ltb-false}
use Rattle.notation.specs.Waiting.{AreWaiting}
use Rattle.notation.specs.Ordering.{users_at}
use Rattle.notation.proofs.PlaceLemmas.{users_told, users_past}
use Rattle.notation.proofs.ordering.Waits.settle.Goals as goal

pub returns-in-Some-clause-waiting : goal.returns-in-Some-clause-waiting
returns-in-Some-clause-waiting c =
    let users = c.args.self.now.users.items in
    let v = c.in-Some.users.now in
    let within : c.args.used < length users = subst (λ (us : List (Vec ℕ Global)). c.args.used < length us) c.deref.ensures.value (ltb-true _ _ (sym c.in-Some.ensures.lookup.0)) in
    let at : v ≡ get_or users c.args.used v = c.in-Some.ensures.lookup.1 ∙ ap (λ (us : List (Vec ℕ Global)). get_or us c.args.used v) c.deref.ensures.value in
    let same : users_at users c.args.used ≡ c.as_slice.result.now = users_told users c.args.used v within at ∙ sym c.as_slice.ensures.value in
    subst (λ (us : List ℕ). OnOk c.release.result ((left : ℕ → ℕ) → AreWaiting left us c.args.self.now.waiting.items c.args.ready.now.items → AreWaiting left [] c.release.new.waiting.items c.release.new.ready.items)) (sym same) c.release.ensures.waiting

pub returns-in-None-clause-waiting : goal.returns-in-None-clause-waiting
returns-in-None-clause-waiting c = λ left h.
    subst (λ (us : List ℕ). AreWaiting left us c.args.self.now.waiting.items c.args.ready.now.items) (users_past c.args.self.now.users.items c.args.used (let e = ap (λ (us : List (Vec ℕ Global)). length us) c.deref.ensures.value in let past = ltb-false _ _ (sym c.in-None.ensures.lookup.0) in omega (arith, e, past))) h
