-- A spelling behind DEFAULT is that of one value.
use Rattle.std.proofs.Common.{◌≡◌, ◌/◌, ◌%◌, ℕ, Bool, true, false, List, [], ◌∷◌, ◌++◌, map, refl, sym, ◌∙◌, arith, eqb}
use Rattle.std.proofs.lemmas.Bool.{eqb-true, eqb-false}
use Rattle.std.specs.List.{flat_map}
use Rattle.std.proofs.Math.Nat.{div-add-mod}
use Rattle.std.proofs.lemmas.List.{append_cancel_right}
use Rattle.lexis.specs.Spelling.{doubled}
use Rattle.builtin_types.specs.Defaults.{bit_digit, hex_digit, digit_string, binary_string, IsHexString, two_digits, character_string}

pub heads : {X : Type 0} (x y : X) (xs ys : List X) → x ∷ xs ≡ y ∷ ys → x ≡ y
heads x y xs ys e = cc

pub tails : {X : Type 0} (x y : X) (xs ys : List X) → x ∷ xs ≡ y ∷ ys → xs ≡ ys
tails x y xs ys e = cc

-- a function that tells elements apart tells lists of them apart
pub same_under_map : {X : Type 0} (f : X → ℕ) → ((x y : X) → f x ≡ f y → x ≡ y) → (xs ys : List X) → map f xs ≡ map f ys → xs ≡ ys
same_under_map f one [] [] e = refl
same_under_map f one [] (y ∷ ys) e = cc
same_under_map f one (x ∷ xs) [] e = cc
same_under_map f one (x ∷ xs) (y ∷ ys) e =
    let first = one x y (heads (f x) (f y) (map f xs) (map f ys) e) in
    let rest = same_under_map f one xs ys (tails (f x) (f y) (map f xs) (map f ys) e) in
    cc

one_bit : (x y : Bool) → bit_digit x ≡ bit_digit y → x ≡ y
one_bit true true e = refl
one_bit true false e = absurd (omega (arith, e))
one_bit false true e = absurd (omega (arith, e))
one_bit false false e = refl

one_hex_digit : (x y : ℕ) → hex_digit x ≡ hex_digit y → x ≡ y
one_hex_digit x y e = grind (arith, e)

-- the digits between the apostrophes
pub same_digits : (a b : List ℕ) (letter : ℕ) → digit_string a letter ≡ digit_string b letter → a ≡ b
same_digits a b letter e = append_cancel_right a b (39 ∷ letter ∷ []) (tails 39 39 (a ++ 39 ∷ letter ∷ []) (b ++ 39 ∷ letter ∷ []) e)

pub one_binary_string : (a b : List Bool) → binary_string a ≡ binary_string b → a ≡ b
one_binary_string a b e = same_under_map bit_digit one_bit a b (same_digits (map bit_digit a) (map bit_digit b) 66 e)

pub one_hex_string : (spelling a b : List ℕ) → IsHexString spelling a → IsHexString spelling b → a ≡ b
one_hex_string spelling a b h g = same_under_map hex_digit one_hex_digit a b (same_digits (map hex_digit a) (map hex_digit b) 72 (sym h.spelt ∙ g.spelt))

pub one_in_two_digits : (a b : List ℕ) → flat_map two_digits a ≡ flat_map two_digits b → a ≡ b
one_in_two_digits [] [] e = refl
one_in_two_digits [] (y ∷ ys) e = cc
one_in_two_digits (x ∷ xs) [] e = cc
one_in_two_digits (x ∷ xs) (y ∷ ys) e =
    let behind = tails (x / 16) (y / 16) (x % 16 ∷ flat_map two_digits xs) (y % 16 ∷ flat_map two_digits ys) e in
    let high = heads (x / 16) (y / 16) (x % 16 ∷ flat_map two_digits xs) (y % 16 ∷ flat_map two_digits ys) e in
    let low = heads (x % 16) (y % 16) (flat_map two_digits xs) (flat_map two_digits ys) behind in
    let rest = one_in_two_digits xs ys (tails (x % 16) (y % 16) (flat_map two_digits xs) (flat_map two_digits ys) behind) in
    let first : x ≡ y = omega (arith, high, low, div-add-mod x 16, div-add-mod y 16) in
    cc

-- the characters of a string in which each quotation mark stands twice
one_doubled : (a b : List ℕ) → doubled a ≡ doubled b → a ≡ b
one_doubled [] [] e = refl
one_doubled [] (d ∷ t) e = by-mark (eqb d 34) refl
  where
    by-mark : (q : Bool) → eqb d 34 ≡ q → [] ≡ d ∷ t
    by-mark true f = let g = rw f at e in cc
    by-mark false f = let g = rw f at e in cc
one_doubled (c ∷ s) [] e = by-mark (eqb c 34) refl
  where
    by-mark : (p : Bool) → eqb c 34 ≡ p → c ∷ s ≡ []
    by-mark true f = let g = rw f at e in cc
    by-mark false f = let g = rw f at e in cc
one_doubled (c ∷ s) (d ∷ t) e = by-marks (eqb c 34) (eqb d 34) refl refl (one_doubled s t)
  where
    by-marks : (p q : Bool) → eqb c 34 ≡ p → eqb d 34 ≡ q → (doubled s ≡ doubled t → s ≡ t) → c ∷ s ≡ d ∷ t
    by-marks true true f g more =
        let h = rw (f, g) at e in
        let rest = more (tails 34 34 (doubled s) (doubled t) (tails 34 34 (34 ∷ doubled s) (34 ∷ doubled t) h)) in
        let first : c ≡ d = eqb-true c 34 f ∙ sym (eqb-true d 34 g) in
        cc
    by-marks true false f g more = let h = rw (f, g) at e in absurd (eqb-false d 34 g (sym (heads 34 d (34 ∷ doubled s) (doubled t) h)))
    by-marks false true f g more = let h = rw (f, g) at e in absurd (eqb-false c 34 f (heads c 34 (doubled s) (34 ∷ doubled t) h))
    by-marks false false f g more =
        let h = rw (f, g) at e in
        let rest = more (tails c d (doubled s) (doubled t) h) in
        let first = heads c d (doubled s) (doubled t) h in
        cc

pub one_character_string : (a b : List ℕ) → character_string a ≡ character_string b → a ≡ b
one_character_string a b e = one_doubled a b (append_cancel_right (doubled a) (doubled b) (34 ∷ []) (tails 34 34 (doubled a ++ 34 ∷ []) (doubled b ++ 34 ∷ []) e))
