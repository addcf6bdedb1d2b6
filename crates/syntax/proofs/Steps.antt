-- The terminals from a place on, one by one.
use Rattle.std.proofs.Common.{◌≡◌, ℕ, ◌+◌, ◌<◌, ◌≤◌, List, [], ◌∷◌, length, get_or, refl, arith, map, add-one, drop-cons}
use Rattle.std.proofs.lemmas.List.{drop_all, length-map}
use Rattle.syntax.specs.declared.terminal.Terminal.{Terminal}
use Rattle.syntax.specs.Reading.{terminal_sign, signs_from}

pub signs_more : (at : ℕ) (ts : List Terminal) (d : Terminal) → at < length ts → signs_from at ts ≡ terminal_sign (get_or ts at d) ∷ signs_from (at + 1) ts
unfolding signs_from
signs_more at ts d h = rw (add-one, drop-cons ts at d) refl

pub signs_end : (at : ℕ) (ts : List Terminal) → length ts ≤ at → signs_from at ts ≡ []
unfolding signs_from
signs_end at ts h = rw (drop_all at ts h) refl

pub ruleset places = (signs_more, signs_end)

pub all_signs : (ts : List Terminal) → signs_from 0 ts ≡ map terminal_sign ts
unfolding signs_from
all_signs ts = refl

-- no more signs than terminals
pub signs_long : (ts : List Terminal) → length (signs_from 0 ts) ≤ length ts
unfolding signs_from
signs_long ts = omega (arith, length-map ts terminal_sign)
