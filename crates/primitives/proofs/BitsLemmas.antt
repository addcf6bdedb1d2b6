-- Lemmas on bits and the octets that they stand in.
use Rattle.std.proofs.Common.{◌≡◌, ℕ, ◌+◌, ◌*◌, ◌^◌, ◌<◌, ◌≤◌, ◌-◌, ◌/◌, ◌%◌, inl, inr, Bool, true, false, cond, List, [], ◌∷◌, ◌++◌, length, take, drop, refl, sym, ◌∙◌, ap, arith, All, get_or, set, zero, suc, subst, length-append, append_assoc, replicate, nat_eq, nat_lt}
use Rattle.std.proofs.lemmas.List.{get_or_read_under, take_more, take_more_set, take_all, append-nil, length-replicate, length-set, length-drop, take-append-drop, append_cancel_right}
use Rattle.std.proofs.lemmas.List.Elements.{All-replicate, All-cons}
use Rattle.std.proofs.lemmas.Bool.{cases_lt, lt-ltb, le-ltb}
use Rattle.std.proofs.lemmas.Nat.{shl-shr, shr-shr, shr_split, pow-add}
use Rattle.std.proofs.Math.Seq.{take-append_seam, drop-append_seam}
use Rattle.std.proofs.Math.Nat.{pow-suc}
use Rattle.std.specs.Cmp.{booleans_Decides}
use Rattle.std.specs.Cmp.Lexicographic.{pointwise, pointwise_decides}
use mathlib.Core.Bool.{beq}
use Rattle.octets.specs.Rule.{Rule, ber, cer, der, IsCanonical}
use Rattle.octets.proofs.DigitLemmas.{All-tail}
use Rattle.primitives.specs.Bits.{bit_of, bits_of_octet, bits_of, bits_before, AreUnused, IsBits, CanBeUnused, IsFrontOf, IsPadded}
use Rattle.primitives.specs.Laws.{OneBitsValue, CanonicalBitsAreBer, OneCanonicalBits}

pub length-bits_of_octet : (o : ℕ) → length (bits_of_octet o) ≡ 8
unfolding bits_of_octet
length-bits_of_octet o = refl

pub length-bits_of : (octets : List ℕ) → length (bits_of octets) ≡ 8 * length octets
length-bits_of [] = refl
length-bits_of (o ∷ octets) = omega (arith, length-append (bits_of_octet o) (bits_of octets), length-bits_of_octet o, length-bits_of octets)

pub bits_of-append : (xs ys : List ℕ) → bits_of (xs ++ ys) ≡ bits_of xs ++ bits_of ys
bits_of-append [] ys = refl
bits_of-append (x ∷ xs) ys = ap (λ t. bits_of_octet x ++ t) (bits_of-append xs ys) ∙ sym (append_assoc (bits_of_octet x) (bits_of xs) (bits_of ys))

-- a bit of an octet whose last u bits were cleared
abbrev shown : ℕ → ℕ → ℕ → ℕ → Bool
shown o u k place = cond (nat_lt k u) false (bit_of o place)

kept : (o u j : ℕ) → o / 2 ^ u * 2 ^ u / 2 ^ (u + j) ≡ o / 2 ^ (u + j)
kept o u j =
    let whole : o / 2 ^ u * 2 ^ u / 2 ^ u / 2 ^ j ≡ o / 2 ^ u * 2 ^ u / 2 ^ (u + j) = shr-shr (o / 2 ^ u * 2 ^ u) u j in
    let back : o / 2 ^ u * 2 ^ u / 2 ^ u ≡ o / 2 ^ u = shl-shr (o / 2 ^ u) u in
    let split : o / 2 ^ u / 2 ^ j ≡ o / 2 ^ (u + j) = shr-shr o u j in
    sym whole ∙ (ap (λ n. n / 2 ^ j) back ∙ split)

gone : (o k j : ℕ) → o / 2 ^ (k + suc j) * 2 ^ (k + suc j) / 2 ^ k % 2 ≡ 0
gone o k j =
    let q = o / 2 ^ (k + suc j) in
    let P = 2 ^ k in
    let Q = 2 ^ j in
    let power : 2 ^ (k + suc j) ≡ P * (Q * 2) = pow-add 2 k (suc j) ∙ ap (λ n. P * n) (pow-suc 2 j) in
    let product : q * 2 ^ (k + suc j) ≡ q * Q * 2 * P = ap (λ n. q * n) power ∙ omega arith in
    let back : q * 2 ^ (k + suc j) / P ≡ q * Q * 2 = ap (λ n. n / P) product ∙ shl-shr (q * Q * 2) k in
    omega (arith, back)

shifted_bit : (o u k : ℕ) → bit_of (o / 2 ^ u * 2 ^ u) (2 ^ k) ≡ shown o u k (2 ^ k)
shifted_bit o u k =
    elim (cases_lt k u) [
      | inl below ↦
          let test : nat_lt k u ≡ true = lt-ltb k u below in
          let size : u ≡ k + suc (u - k - 1) = omega arith in
          let none : o / 2 ^ u * 2 ^ u / 2 ^ k % 2 ≡ 0 = subst (λ n. o / 2 ^ n * 2 ^ n / 2 ^ k % 2 ≡ 0) (sym size) (gone o k (u - k - 1)) in
          ap (λ n. nat_eq n 1) none ∙ ap (λ b. cond b false (bit_of o (2 ^ k))) (sym test)
      | inr above ↦
          let test : nat_lt k u ≡ false = le-ltb k u above in
          let size : k ≡ u + (k - u) = omega arith in
          let same : o / 2 ^ u * 2 ^ u / 2 ^ k ≡ o / 2 ^ k = subst (λ n. o / 2 ^ u * 2 ^ u / 2 ^ n ≡ o / 2 ^ n) (sym size) (kept o u (k - u)) in
          ap (λ n. nat_eq (n % 2) 1) same ∙ ap (λ b. cond b false (bit_of o (2 ^ k))) (sym test)
    ]

shifted_bits : (o u : ℕ) → bits_of_octet (o / 2 ^ u * 2 ^ u) ≡ shown o u 7 128 ∷ shown o u 6 64 ∷ shown o u 5 32 ∷ shown o u 4 16 ∷ shown o u 3 8 ∷ shown o u 2 4 ∷ shown o u 1 2 ∷ shown o u 0 1 ∷ []
unfolding bits_of_octet
shifted_bits o u =
    let b7 : bit_of (o / 2 ^ u * 2 ^ u) 128 ≡ shown o u 7 128 = shifted_bit o u 7 in
    let b6 : bit_of (o / 2 ^ u * 2 ^ u) 64 ≡ shown o u 6 64 = shifted_bit o u 6 in
    let b5 : bit_of (o / 2 ^ u * 2 ^ u) 32 ≡ shown o u 5 32 = shifted_bit o u 5 in
    let b4 : bit_of (o / 2 ^ u * 2 ^ u) 16 ≡ shown o u 4 16 = shifted_bit o u 4 in
    let b3 : bit_of (o / 2 ^ u * 2 ^ u) 8 ≡ shown o u 3 8 = shifted_bit o u 3 in
    let b2 : bit_of (o / 2 ^ u * 2 ^ u) 4 ≡ shown o u 2 4 = shifted_bit o u 2 in
    let b1 : bit_of (o / 2 ^ u * 2 ^ u) 2 ≡ shown o u 1 2 = shifted_bit o u 1 in
    let b0 : bit_of (o / 2 ^ u * 2 ^ u) 1 ≡ shown o u 0 1 = shifted_bit o u 0 in
    cc

pub cleared_bits : (o u : ℕ) → u ≤ 7 → bits_of_octet (o / 2 ^ u * 2 ^ u) ≡ take (8 - u) (bits_of_octet o) ++ replicate u false
unfolding bits_of_octet
cleared_bits o zero low = shifted_bits o 0
cleared_bits o (suc zero) low = shifted_bits o 1
cleared_bits o (suc (suc zero)) low = shifted_bits o 2
cleared_bits o (suc (suc (suc zero))) low = shifted_bits o 3
cleared_bits o (suc (suc (suc (suc zero)))) low = shifted_bits o 4
cleared_bits o (suc (suc (suc (suc (suc zero))))) low = shifted_bits o 5
cleared_bits o (suc (suc (suc (suc (suc (suc zero)))))) low = shifted_bits o 6
cleared_bits o (suc (suc (suc (suc (suc (suc (suc zero))))))) low = shifted_bits o 7
cleared_bits o (suc (suc (suc (suc (suc (suc (suc (suc u)))))))) low = absurd (omega arith)

-- an octet's bits once it was shifted there and back
pub shifted_octet : (o u : ℕ) → o < 256 → u ≤ 7 → bits_of_octet (o / 2 ^ u * 2 ^ u % 256) ≡ take (8 - u) (bits_of_octet o) ++ replicate u false
shifted_octet o u small low =
    let whole : o / 2 ^ u * 2 ^ u % 256 ≡ o / 2 ^ u * 2 ^ u = omega (arith, shr_split o u) in
    ap bits_of_octet whole ∙ cleared_bits o u low

-- the bits before the unused ones
pub bits_before-parts : (octets : List ℕ) (unused : ℕ) (bits tail : List Bool) → bits_of octets ≡ bits ++ tail → length tail ≡ unused → bits_before octets unused ≡ bits
bits_before-parts octets unused bits tail parts size =
    let count : 8 * length octets - unused ≡ length bits = omega (arith, length-bits_of octets, ap length parts, length-append bits tail) in
    ap (λ n. take n (bits_of octets)) count ∙ (ap (λ t. take (length bits) t) parts ∙ take-append_seam bits tail)

pub IsPadded-from : (octets : List ℕ) (unused : ℕ) (bits : List Bool) → unused ≤ 7 → All (λ o. o < 256) octets → bits_of octets ≡ bits ++ replicate unused false → IsPadded (bits_before octets unused) octets unused
IsPadded-from octets unused bits low below parts =
    let same = bits_before-parts octets unused bits (replicate unused false) parts (length-replicate unused false) in
    record { at_most_7 = low; below_256 = below; bits_are = parts ∙ ap (λ t. t ++ replicate unused false) (sym same) }

-- all bits stand
pub IsPadded-whole : (octets : List ℕ) → All (λ o. o < 256) octets → IsPadded (bits_before octets 0) octets 0
IsPadded-whole octets below = IsPadded-from octets 0 (bits_of octets) (omega arith) below (sym (append-nil (bits_of octets)))

-- the last octet was cleared
pub record IsCleared (octets : List ℕ) (unused y : ℕ) : Type 0 where
  pub some : 1 ≤ length octets
  pub at_most_7 : unused ≤ 7
  pub below_256 : All (λ o. o < 256) octets
  pub low : y < 256
  pub bits_are : bits_of_octet y ≡ take (8 - unused) (bits_of_octet (get_or octets (length octets - 1) 0)) ++ replicate unused false

pub IsCleared-from : (octets : List ℕ) (n unused x : ℕ) → n ≡ length octets → 1 ≤ n → unused ≤ 7 → All (λ o. o < 256) octets → x ≡ get_or octets (n - 1) x → IsCleared octets unused (x / 2 ^ unused * 2 ^ unused % 256)
IsCleared-from octets n unused x size some most below item =
    let there : x ≡ get_or octets (n - 1) 0 = get_or_read_under octets (n - 1) n x 0 item (omega arith) size in
    let last : x ≡ get_or octets (length octets - 1) 0 = there ∙ ap (λ k. get_or octets (k - 1) 0) size in
    let small : x < 256 = subst (λ o. o < 256) (sym last) (below (length octets - 1) 0 (omega arith)) in
    record {
      some = omega arith;
      at_most_7 = most;
      below_256 = below;
      low = omega arith;
      bits_are = shifted_octet x unused small most ∙ ap (λ o. take (8 - unused) (bits_of_octet o) ++ replicate unused false) last;
    }

front_bits : (octets : List ℕ) (unused y : ℕ) → List Bool
front_bits octets unused y = bits_of (take (length octets - 1) octets) ++ take (8 - unused) (bits_of_octet (get_or octets (length octets - 1) 0))

pub last_of : (octets : List ℕ) → 1 ≤ length octets → octets ≡ take (length octets - 1) octets ++ get_or octets (length octets - 1) 0 ∷ []
last_of octets some =
    let i = length octets - 1 in
    let size : i + 1 ≡ length octets = omega arith in
    sym (take_all (length octets) octets (omega arith)) ∙ (ap (λ n. take n octets) (sym size) ∙ take_more octets i 0 (omega arith))

set_last : (octets : List ℕ) (y : ℕ) → 1 ≤ length octets → set octets (length octets - 1) y ≡ take (length octets - 1) octets ++ y ∷ []
set_last octets y some =
    let i = length octets - 1 in
    let size : i + 1 ≡ length octets = omega arith in
    let all : take (i + 1) (set octets i y) ≡ set octets i y = take_all (i + 1) (set octets i y) (omega (arith, length-set octets i y)) in
    sym all ∙ take_more_set octets i y (omega arith)

cleared_parts : (octets : List ℕ) (unused y : ℕ) → IsCleared octets unused y → bits_of (set octets (length octets - 1) y) ≡ front_bits octets unused y ++ replicate unused false
unfolding front_bits
cleared_parts octets unused y h =
    let front = take (length octets - 1) octets in
    let kept_bits = take (8 - unused) (bits_of_octet (get_or octets (length octets - 1) 0)) in
    let whole : bits_of (set octets (length octets - 1) y) ≡ bits_of front ++ (bits_of_octet y ++ []) = ap bits_of (set_last octets y h.some) ∙ bits_of-append front (y ∷ []) in
    let last : bits_of_octet y ++ [] ≡ kept_bits ++ replicate unused false = append-nil (bits_of_octet y) ∙ h.bits_are in
    whole ∙ (ap (λ t. bits_of front ++ t) last ∙ sym (append_assoc (bits_of front) kept_bits (replicate unused false)))

old_parts : (octets : List ℕ) (unused y : ℕ) → IsCleared octets unused y → bits_of octets ≡ front_bits octets unused y ++ drop (8 - unused) (bits_of_octet (get_or octets (length octets - 1) 0))
unfolding front_bits
old_parts octets unused y h =
    let front = take (length octets - 1) octets in
    let x = get_or octets (length octets - 1) 0 in
    let whole : bits_of octets ≡ bits_of front ++ (bits_of_octet x ++ []) = ap bits_of (last_of octets h.some) ∙ bits_of-append front (x ∷ []) in
    let last : bits_of_octet x ++ [] ≡ take (8 - unused) (bits_of_octet x) ++ drop (8 - unused) (bits_of_octet x) = append-nil (bits_of_octet x) ∙ sym (take-append-drop (8 - unused) (bits_of_octet x)) in
    whole ∙ (ap (λ t. bits_of front ++ t) last ∙ sym (append_assoc (bits_of front) (take (8 - unused) (bits_of_octet x)) (drop (8 - unused) (bits_of_octet x))))

All-set_below : (octets : List ℕ) (i y : ℕ) → All (λ o. o < 256) octets → y < 256 → All (λ o. o < 256) (set octets i y)
All-set_below [] i y h low = h
All-set_below (x ∷ octets) zero y h low = All-cons (λ o. o < 256) y octets low (All-tail (λ o. o < 256) x octets h)
All-set_below (x ∷ octets) (suc i) y h low = All-cons (λ o. o < 256) x (set octets i y) (h 0 0 (omega arith)) (All-set_below octets i y (All-tail (λ o. o < 256) x octets h) low)

pub IsPadded-cleared : (octets : List ℕ) (unused y : ℕ) → IsCleared octets unused y → IsPadded (bits_before (set octets (length octets - 1) y) unused) (set octets (length octets - 1) y) unused
IsPadded-cleared octets unused y h =
    IsPadded-from (set octets (length octets - 1) y) unused (front_bits octets unused y) h.at_most_7 (All-set_below octets (length octets - 1) y h.below_256 h.low) (cleared_parts octets unused y h)

-- the bits that were there before the last octet was cleared
pub IsFrontOf-whole : (octets : List ℕ) → IsFrontOf (bits_before octets 0) 0 octets
IsFrontOf-whole octets = record {
  tail = [];
  bits_are = sym (append-nil (bits_of octets)) ∙ ap (λ t. t ++ []) (sym (bits_before-parts octets 0 (bits_of octets) [] (sym (append-nil (bits_of octets))) refl));
  tail_is = refl;
}

pub IsFrontOf-cleared : (octets : List ℕ) (unused y : ℕ) → IsCleared octets unused y → IsFrontOf (bits_before (set octets (length octets - 1) y) unused) unused octets
IsFrontOf-cleared octets unused y h =
    let x = get_or octets (length octets - 1) 0 in
    let same = bits_before-parts (set octets (length octets - 1) y) unused (front_bits octets unused y) (replicate unused false) (cleared_parts octets unused y h) (length-replicate unused false) in
    record {
      tail = drop (8 - unused) (bits_of_octet x);
      bits_are = old_parts octets unused y h ∙ ap (λ t. t ++ drop (8 - unused) (bits_of_octet x)) (sym same);
      tail_is = omega (arith, length-drop (8 - unused) (bits_of_octet x), length-bits_of_octet x, h.at_most_7);
    }

-- octets are determined by their bits
bit_same : (x y : ℕ) → x < 2 → y < 2 → nat_eq x 1 ≡ nat_eq y 1 → x ≡ y
bit_same zero zero hx hy h = refl
bit_same zero (suc zero) hx hy h = cc
bit_same zero (suc (suc y)) hx hy h = absurd (omega arith)
bit_same (suc zero) zero hx hy h = cc
bit_same (suc (suc x)) zero hx hy h = absurd (omega arith)
bit_same (suc x) (suc y) hx hy h = omega arith

octet_value : (o : ℕ) → o < 256 → o ≡ 128 * (o / 128 % 2) + 64 * (o / 64 % 2) + 32 * (o / 32 % 2) + 16 * (o / 16 % 2) + 8 * (o / 8 % 2) + 4 * (o / 4 % 2) + 2 * (o / 2 % 2) + 1 * (o / 1 % 2)
octet_value o low = omega arith

octet_same : (o q : ℕ) → o < 256 → q < 256 → bits_of_octet o ≡ bits_of_octet q → o ≡ q
unfolding bits_of_octet
octet_same o q ho hq same =
    let v7 : o / 128 % 2 ≡ q / 128 % 2 = bit_same (o / 128 % 2) (q / 128 % 2) (omega arith) (omega arith) (cc same) in
    let v6 : o / 64 % 2 ≡ q / 64 % 2 = bit_same (o / 64 % 2) (q / 64 % 2) (omega arith) (omega arith) (cc same) in
    let v5 : o / 32 % 2 ≡ q / 32 % 2 = bit_same (o / 32 % 2) (q / 32 % 2) (omega arith) (omega arith) (cc same) in
    let v4 : o / 16 % 2 ≡ q / 16 % 2 = bit_same (o / 16 % 2) (q / 16 % 2) (omega arith) (omega arith) (cc same) in
    let v3 : o / 8 % 2 ≡ q / 8 % 2 = bit_same (o / 8 % 2) (q / 8 % 2) (omega arith) (omega arith) (cc same) in
    let v2 : o / 4 % 2 ≡ q / 4 % 2 = bit_same (o / 4 % 2) (q / 4 % 2) (omega arith) (omega arith) (cc same) in
    let v1 : o / 2 % 2 ≡ q / 2 % 2 = bit_same (o / 2 % 2) (q / 2 % 2) (omega arith) (omega arith) (cc same) in
    let v0 : o / 1 % 2 ≡ q / 1 % 2 = bit_same (o / 1 % 2) (q / 1 % 2) (omega arith) (omega arith) (cc same) in
    let left : o ≡ 128 * (o / 128 % 2) + 64 * (o / 64 % 2) + 32 * (o / 32 % 2) + 16 * (o / 16 % 2) + 8 * (o / 8 % 2) + 4 * (o / 4 % 2) + 2 * (o / 2 % 2) + 1 * (o / 1 % 2) = octet_value o ho in
    let right : q ≡ 128 * (q / 128 % 2) + 64 * (q / 64 % 2) + 32 * (q / 32 % 2) + 16 * (q / 16 % 2) + 8 * (q / 8 % 2) + 4 * (q / 4 % 2) + 2 * (q / 2 % 2) + 1 * (q / 1 % 2) = octet_value q hq in
    omega (arith, left, right)

front_8 : (a r : List Bool) → length a ≡ 8 → take 8 (a ++ r) ≡ a
front_8 a r size = ap (λ n. take n (a ++ r)) (sym size) ∙ take-append_seam a r

rest_8 : (a r : List Bool) → length a ≡ 8 → drop 8 (a ++ r) ≡ r
rest_8 a r size = ap (λ n. drop n (a ++ r)) (sym size) ∙ drop-append_seam a r

pub bits_of-injective : (xs ys : List ℕ) → All (λ o. o < 256) xs → All (λ o. o < 256) ys → bits_of xs ≡ bits_of ys → xs ≡ ys
bits_of-injective [] [] f g same = refl
bits_of-injective [] (y ∷ ys) f g same = absurd (omega (arith, ap length same, length-bits_of [], length-bits_of (y ∷ ys)))
bits_of-injective (x ∷ xs) [] f g same = absurd (omega (arith, ap length same, length-bits_of [], length-bits_of (x ∷ xs)))
bits_of-injective (x ∷ xs) (y ∷ ys) f g same =
    let first : bits_of_octet x ≡ bits_of_octet y = sym (front_8 (bits_of_octet x) (bits_of xs) (length-bits_of_octet x)) ∙ (ap (λ t. take 8 t) same ∙ front_8 (bits_of_octet y) (bits_of ys) (length-bits_of_octet y)) in
    let rest : bits_of xs ≡ bits_of ys = sym (rest_8 (bits_of_octet x) (bits_of xs) (length-bits_of_octet x)) ∙ (ap (λ t. drop 8 t) same ∙ rest_8 (bits_of_octet y) (bits_of ys) (length-bits_of_octet y)) in
    let head : x ≡ y = octet_same x y (f 0 0 (omega arith)) (g 0 0 (omega arith)) first in
    let tail : xs ≡ ys = bits_of-injective xs ys (All-tail (λ o. o < 256) x xs f) (All-tail (λ o. o < 256) y ys g) rest in
    ap (λ k. k ∷ xs) head ∙ ap (λ t. y ∷ t) tail

-- bits have one count of unused bits, and one list of octets
pub record IsSamePadding (o p : List ℕ) (u v : ℕ) : Type 0 where
  pub octets : o ≡ p
  pub unused : u ≡ v

pub one_padding : (bits : List Bool) (o p : List ℕ) (u v : ℕ) → IsPadded bits o u → IsPadded bits p v → IsSamePadding o p u v
one_padding bits o p u v f g =
    let left : 8 * length o ≡ length bits + u = omega (arith, length-bits_of o, ap length f.bits_are, length-append bits (replicate u false), length-replicate u false) in
    let right : 8 * length p ≡ length bits + v = omega (arith, length-bits_of p, ap length g.bits_are, length-append bits (replicate v false), length-replicate v false) in
    let same : u ≡ v = omega (arith, left, right, f.at_most_7, g.at_most_7) in
    let whole : bits_of o ≡ bits_of p = f.bits_are ∙ (ap (λ n. bits ++ replicate n false) same ∙ sym g.bits_are) in
    record { octets = bits_of-injective o p f.below_256 g.below_256 whole; unused = same }

pub same_bits : (b d : List Bool) (o : List ℕ) (u : ℕ) → IsPadded b o u → IsPadded d o u → b ≡ d
same_bits b d o u f g = append_cancel_right b d (replicate u false) (sym f.bits_are ∙ g.bits_are)

-- zero bits are all alike
clear-replicate : (tail : List Bool) → All (λ bit. bit ≡ false) tail → tail ≡ replicate (length tail) false
clear-replicate [] h = refl
clear-replicate (bit ∷ tail) h =
    let first : bit ≡ false = h 0 false (omega arith) in
    let rest : tail ≡ replicate (length tail) false = clear-replicate tail (λ k d below. h (suc k) d (omega arith)) in
    ap (λ b. b ∷ tail) first ∙ ap (λ t. false ∷ t) rest

IsPadded-from_tail : (bits tail : List Bool) (octets : List ℕ) (unused : ℕ) → unused ≤ 7 → All (λ o. o < 256) octets → bits_of octets ≡ bits ++ tail → length tail ≡ unused → All (λ bit. bit ≡ false) tail → IsPadded bits octets unused
IsPadded-from_tail bits tail octets unused low below parts size clear =
    let same : tail ≡ replicate unused false = clear-replicate tail clear ∙ ap (λ n. replicate n false) size in
    record { at_most_7 = low; below_256 = below; bits_are = parts ∙ ap (λ t. bits ++ t) same }

-- zero bits may be unused under every rule
zeros_are_unused : (rule : Rule) (unused : ℕ) → AreUnused rule (replicate unused false)
zeros_are_unused ber unused = tt
zeros_are_unused cer unused = All-replicate (λ bit. bit ≡ false) unused false refl
zeros_are_unused der unused = All-replicate (λ bit. bit ≡ false) unused false refl

-- the octets that `new` would take are contents octets under every rule
pub IsBits-from_padded : (rule : Rule) (bits : List Bool) (octets : List ℕ) (unused : ℕ) → IsPadded bits octets unused → IsBits rule bits (unused ∷ octets)
IsBits-from_padded rule bits octets unused h = record {
  unused = unused;
  octets = octets;
  tail = replicate unused false;
  contents_are = refl;
  at_most_7 = h.at_most_7;
  below_256 = h.below_256;
  bits_are = h.bits_are;
  tail_is = length-replicate unused false;
  free = zeros_are_unused rule unused;
}

-- the count of unused bits and the octets of some contents octets
pub CanBeUnused-from : (rule : Rule) (bits : List Bool) (unused : ℕ) (octets : List ℕ) → IsBits rule bits (unused ∷ octets) → CanBeUnused unused octets
CanBeUnused-from rule bits unused octets h =
    let same : h.unused ≡ unused = cc h.contents_are in
    let data_same : h.octets ≡ octets = cc h.contents_are in
    record {
      at_most_7 = omega (arith, h.at_most_7, same);
      none = λ empty. omega (arith, same, h.tail_is, ap length h.bits_are, length-append bits h.tail, length-bits_of h.octets, ap length data_same, ap length empty);
    }

pub IsBits-from_front : (bits : List Bool) (unused : ℕ) (octets : List ℕ) → unused ≤ 7 → All (λ o. o < 256) octets → IsFrontOf bits unused octets → IsBits ber bits (unused ∷ octets)
IsBits-from_front bits unused octets low below h = record {
  unused = unused;
  octets = octets;
  tail = h.tail;
  contents_are = refl;
  at_most_7 = low;
  below_256 = below;
  bits_are = h.bits_are;
  tail_is = h.tail_is;
  free = tt;
}

pub one_bits_value : OneBitsValue
one_bits_value r s b d c f g =
    let whole : f.unused ∷ f.octets ≡ g.unused ∷ g.octets = sym f.contents_are ∙ g.contents_are in
    let unused : f.unused ≡ g.unused = cc whole in
    let octets : f.octets ≡ g.octets = cc whole in
    let left : bits_before f.octets f.unused ≡ b = bits_before-parts f.octets f.unused b f.tail f.bits_are f.tail_is in
    let right : bits_before g.octets g.unused ≡ d = bits_before-parts g.octets g.unused d g.tail g.bits_are g.tail_is in
    sym left ∙ (ap (λ t. bits_before t f.unused) octets ∙ (ap (λ n. bits_before g.octets n) unused ∙ right))

pub canonical_bits_are_ber : CanonicalBitsAreBer
canonical_bits_are_ber rule bits c h = record {
  unused = h.unused;
  octets = h.octets;
  tail = h.tail;
  contents_are = h.contents_are;
  at_most_7 = h.at_most_7;
  below_256 = h.below_256;
  bits_are = h.bits_are;
  tail_is = h.tail_is;
  free = tt;
}

-- under the canonical rules unused bits are zero
canonical_zeros : (rule : Rule) (tail : List Bool) → IsCanonical rule → AreUnused rule tail → All (λ bit. bit ≡ false) tail
canonical_zeros ber tail canonical h = absurd (canonical refl)
canonical_zeros cer tail canonical h = h
canonical_zeros der tail canonical h = h

canonical_padding : (rule : Rule) (bits : List Bool) (c : List ℕ) → IsCanonical rule → (h : IsBits rule bits c) → IsPadded bits h.octets h.unused
canonical_padding rule bits c canonical h =
    IsPadded-from_tail bits h.tail h.octets h.unused h.at_most_7 h.below_256 h.bits_are h.tail_is (canonical_zeros rule h.tail canonical h.free)

pub one_canonical_bits : OneCanonicalBits
one_canonical_bits r s bits c d canonical canonical' f g =
    let one = canonical_padding r bits c canonical f in
    let two = canonical_padding s bits d canonical' g in
    let same = one_padding bits f.octets g.octets f.unused g.unused one two in
    f.contents_are ∙ (ap (λ n. n ∷ f.octets) same.unused ∙ (ap (λ t. g.unused ∷ t) same.octets ∙ sym g.contents_are))

not_true : (b : Bool) → (b ≡ true → ⊥) → b ≡ false
not_true true h = absurd (h refl)
not_true false h = refl

-- equal bits have equal octets and unused bits, and the other way round
pub equal_padding : (b d : List Bool) (o p : List ℕ) (u v : ℕ) → IsPadded b o u → IsPadded d p v → o ≡ p → u ≡ v → pointwise beq b d ≡ true
equal_padding b d o p u v f g octets unused =
    let other : IsPadded d o u = subst (λ n. IsPadded d o n) (sym unused) (subst (λ t. IsPadded d t v) (sym octets) g) in
    (pointwise_decides booleans_Decides b d).1 (same_bits b d o u f other)

pub unequal_padding : (b d : List Bool) (o p : List ℕ) (u v : ℕ) → IsPadded b o u → IsPadded d p v → (o ≡ p → u ≡ v → ⊥) → pointwise beq b d ≡ false
unequal_padding b d o p u v f g differ =
    not_true (pointwise beq b d) (λ e.
    let same = (pointwise_decides booleans_Decides b d).0 e in
    let one = one_padding d o p u v (subst (λ t. IsPadded t o u) same f) g in
    differ one.octets one.unused)
