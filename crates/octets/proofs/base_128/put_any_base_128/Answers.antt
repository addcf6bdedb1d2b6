use Rattle.std.proofs.Common.{◌≡◌, ◌-◌, ℕ, List, refl, ◌∙◌, ap, subst, arith, ◌++◌, drop, take, replicate}
use Rattle.std.proofs.lemmas.List.{take_all, length-drop}
use Rattle.octets.proofs.Base128SpellingLemmas.{IsBase128Spelling, IsBase128Spelling-last, IsBase128Spelling-step, IsBase128-from_spelling}
use Rattle.octets.proofs.base_128.put_any_base_128.Goals as goal

pub loop-rest-init : goal.loop-rest-init
loop-rest-init c =
    IsBase128Spelling-last c.args.number (replicate {A = ℕ} 19 0) c.ranges.number.fits refl

pub loop-rest-preserved : goal.loop-rest-preserved
loop-rest-preserved c = IsBase128Spelling-step c.args.number c.loop-rest.rest c.loop-rest.start c.loop-rest.room c.loop-rest.invariant c.loop-rest-test.true

pub returns-clause-appended : goal.returns-clause-appended
returns-clause-appended c =
    let at = c.loop-rest.start in
    let spelt : List ℕ = c.loop-rest.room in
    let whole : take (19 - at) (drop at spelt) ≡ drop at spelt = take_all (19 - at) (drop at spelt) (omega (arith, length-drop at spelt, c.loop-rest.invariant.size)) in
    let done : c.loop-rest.rest ≡ 0 = omega arith in
    let spelling = subst (λ r. IsBase128Spelling c.args.number r at spelt) done c.loop-rest.invariant in (
      drop at spelt,
      c.in_ok-extend_from_slice.ensures.items ∙ ap (λ x. c.args.out.now.items ++ x) whole,
      IsBase128-from_spelling c.args.number at spelt spelling,
    )
