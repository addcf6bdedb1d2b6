use Rattle.std.proofs.Common.{◌≡◌, ◌∙◌, ◌-◌, ◌&&◌, sym, ap, List, ℕ, Bool, length, take, drop, refl}
use Rattle.std.specs.Prelude.{codes}
use Rattle.std.specs.List.{list_all}
use Rattle.lexis.specs.Octets.{begins}
use Rattle.lexis.specs.Spelling.{is_bit}
use Rattle.lexis.proofs.DigitsLemmas.{behind_first, hex_token, binary_token, no_digit_string}
use Rattle.lexis.proofs.quoted.digit_string_in_front.Goals as goal

-- the tests of two slices, told of what they are slices of
front-test : (front behind y : List ℕ) (n : ℕ) (r t : Bool) → r ≡ begins front behind → behind ≡ drop n y → r ≡ t → begins front (drop n y) ≡ t
front-test front behind y n r t e f g = sym (ap (begins front) f) ∙ sym e ∙ g

both-test : (digits behind y : List ℕ) (n : ℕ) (r t : Bool) → r ≡ (begins (codes "'B") behind && list_all is_bit digits) → digits ≡ take n y → behind ≡ drop n y → r ≡ t → (begins (codes "'B") (drop n y) && list_all is_bit (take n y)) ≡ t
both-test digits behind y n r t e f g h = sym (ap (λ (v : List ℕ). begins (codes "'B") v && list_all is_bit digits) g ∙ ap (λ (v : List ℕ). begins (codes "'B") (drop n y) && list_all is_bit v) f) ∙ sym e ∙ h

pub returns-then-starts_with : goal.returns-then-starts_with
returns-then-starts_with c =
    let x = c.args.octets.now in
    let y = take (length x - 1) (drop 1 x) in
    let n = c.count_of_digits-count.result in
    hex_token x y n (behind_first x y n refl c.count_of_digits-count.ensures.value c.requires.first) c.requires.apart
    (front-test (codes "'H") c.split_at.result.1.now y n c.starts_with.result _ c.starts_with.ensures.value c.split_at.ensures.back c.if-starts_with.true)

pub returns-then-is_binary : goal.returns-then-is_binary
returns-then-is_binary c =
    let x = c.args.octets.now in
    let y = take (length x - 1) (drop 1 x) in
    let n = c.count_of_digits-count.result in
    binary_token x y n (behind_first x y n refl c.count_of_digits-count.ensures.value c.requires.first) c.requires.apart
    (both-test c.split_at.result.0.now c.split_at.result.1.now y n c.is_binary.result _ c.is_binary.ensures c.split_at.ensures.front c.split_at.ensures.back c.if-is_binary.true)

pub returns-else-is_binary : goal.returns-else-is_binary
returns-else-is_binary c =
    let x = c.args.octets.now in
    let y = take (length x - 1) (drop 1 x) in
    let n = c.count_of_digits-count.result in
    no_digit_string x y n (behind_first x y n refl c.count_of_digits-count.ensures.value c.requires.first)
    (front-test (codes "'H") c.split_at.result.1.now y n c.starts_with.result _ c.starts_with.ensures.value c.split_at.ensures.back c.if-starts_with.false)
    (both-test c.split_at.result.0.now c.split_at.result.1.now y n c.is_binary.result _ c.is_binary.ensures c.split_at.ensures.front c.split_at.ensures.back c.if-is_binary.false)
