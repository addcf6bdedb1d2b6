-- Lists of octets that ascend as the encodings in a SET OF have to, and some that do not (X.690 11.6).
use Rattle.std.proofs.Common.{◌<◌, ℕ, List, [], ◌∷◌, inl, inr, refl, arith}
use Rattle.std.proofs.lemmas.List.Kept.{AllPairs-cons}
use Rattle.std.proofs.lemmas.List.Elements.{All-nil, All-cons}
use Rattle.types.specs.Order.{IsPaddedAtMost, Ascends}
use Rattle.types.proofs.ListLemmas.{AllPairs-nil, contains_first}
use Rattle.types.proofs.SortedLemmas.{AllPairs-first, AllPairs-rest}
use Rattle.types.proofs.OrderLemmas.{padded_refl}

-- lists of few encodings
pub one_ascends : (x : List ℕ) → Ascends (x ∷ [])
one_ascends x = AllPairs-cons IsPaddedAtMost x [] (All-nil (IsPaddedAtMost x)) (AllPairs-nil IsPaddedAtMost)

pub two_ascend : (x y : List ℕ) → IsPaddedAtMost x y → Ascends (x ∷ y ∷ [])
two_ascend x y h = AllPairs-cons IsPaddedAtMost x (y ∷ []) (All-cons (IsPaddedAtMost x) y [] h (All-nil (IsPaddedAtMost x))) (one_ascends y)

pub three_ascend : (x y z : List ℕ) → IsPaddedAtMost x y → IsPaddedAtMost x z → IsPaddedAtMost y z → Ascends (x ∷ y ∷ z ∷ [])
three_ascend x y z h g k =
    AllPairs-cons IsPaddedAtMost x (y ∷ z ∷ []) (All-cons (IsPaddedAtMost x) y (z ∷ []) h (All-cons (IsPaddedAtMost x) z [] g (All-nil (IsPaddedAtMost x)))) (two_ascend y z k)

pub first_two : (x y : List ℕ) (others : List (List ℕ)) → Ascends (x ∷ y ∷ others) → IsPaddedAtMost x y
first_two x y others h = AllPairs-first IsPaddedAtMost x y (y ∷ others) h (contains_first y y others refl)

-- the first octet that differs decides
pub less : (m n : ℕ) (xs ys : List ℕ) → m < n → IsPaddedAtMost (m ∷ xs) (n ∷ ys)
less m n xs ys h = inl h

pub not_less : (m n : ℕ) (xs ys : List ℕ) → n < m → IsPaddedAtMost (m ∷ xs) (n ∷ ys) → ⊥
not_less m n xs ys h (inl g) = omega (arith, h, g)
not_less m n xs ys h (inr g) = omega (arith, h, g.0)

pub alike : (m : ℕ) (xs ys : List ℕ) → IsPaddedAtMost xs ys → IsPaddedAtMost (m ∷ xs) (m ∷ ys)
alike m xs ys h = inr (refl, h)

pub not_alike : (m : ℕ) (xs ys : List ℕ) → (IsPaddedAtMost xs ys → ⊥) → IsPaddedAtMost (m ∷ xs) (m ∷ ys) → ⊥
not_alike m xs ys h (inl g) = omega (arith, g)
not_alike m xs ys h (inr g) = h g.1

-- no encodings and one ascend, and so does one that stands twice
none_ascend : Ascends []
none_ascend = AllPairs-nil IsPaddedAtMost

null_ascends : Ascends ((0x05 ∷ 0x00 ∷ []) ∷ [])
null_ascends = one_ascends (0x05 ∷ 0x00 ∷ [])

twice : Ascends ((0x02 ∷ 0x01 ∷ 0x05 ∷ []) ∷ (0x02 ∷ 0x01 ∷ 0x05 ∷ []) ∷ [])
twice = two_ascend (0x02 ∷ 0x01 ∷ 0x05 ∷ []) (0x02 ∷ 0x01 ∷ 0x05 ∷ []) (padded_refl (0x02 ∷ 0x01 ∷ 0x05 ∷ []))

-- 04 01 41 before 05 00, and not after it: the octets count, not how many there are
longer_first : Ascends ((0x04 ∷ 0x01 ∷ 0x41 ∷ []) ∷ (0x05 ∷ 0x00 ∷ []) ∷ [])
longer_first = two_ascend (0x04 ∷ 0x01 ∷ 0x41 ∷ []) (0x05 ∷ 0x00 ∷ []) (less 0x04 0x05 (0x01 ∷ 0x41 ∷ []) (0x00 ∷ []) (omega arith))

longer_last : Ascends ((0x05 ∷ 0x00 ∷ []) ∷ (0x04 ∷ 0x01 ∷ 0x41 ∷ []) ∷ []) → ⊥
longer_last h = not_less 0x05 0x04 (0x00 ∷ []) (0x01 ∷ 0x41 ∷ []) (omega arith) (first_two (0x05 ∷ 0x00 ∷ []) (0x04 ∷ 0x01 ∷ 0x41 ∷ []) [] h)

-- 04 01 FF before 04 02 00 00, and not after it: the encodings are compared, not the strings
by_length : Ascends ((0x04 ∷ 0x01 ∷ 0xFF ∷ []) ∷ (0x04 ∷ 0x02 ∷ 0x00 ∷ 0x00 ∷ []) ∷ [])
by_length = two_ascend (0x04 ∷ 0x01 ∷ 0xFF ∷ []) (0x04 ∷ 0x02 ∷ 0x00 ∷ 0x00 ∷ []) (alike 0x04 (0x01 ∷ 0xFF ∷ []) (0x02 ∷ 0x00 ∷ 0x00 ∷ []) (less 0x01 0x02 (0xFF ∷ []) (0x00 ∷ 0x00 ∷ []) (omega arith)))

by_string : Ascends ((0x04 ∷ 0x02 ∷ 0x00 ∷ 0x00 ∷ []) ∷ (0x04 ∷ 0x01 ∷ 0xFF ∷ []) ∷ []) → ⊥
by_string h =
    not_alike 0x04 (0x02 ∷ 0x00 ∷ 0x00 ∷ []) (0x01 ∷ 0xFF ∷ []) (not_less 0x02 0x01 (0x00 ∷ 0x00 ∷ []) (0xFF ∷ []) (omega arith))
    (first_two (0x04 ∷ 0x02 ∷ 0x00 ∷ 0x00 ∷ []) (0x04 ∷ 0x01 ∷ 0xFF ∷ []) [] h)

-- 01 00 before 02: padding stands at the end
padded_at_end : Ascends ((0x01 ∷ 0x00 ∷ []) ∷ (0x02 ∷ []) ∷ [])
padded_at_end = two_ascend (0x01 ∷ 0x00 ∷ []) (0x02 ∷ []) (less 0x01 0x02 (0x00 ∷ []) [] (omega arith))

padded_in_front : Ascends ((0x02 ∷ []) ∷ (0x01 ∷ 0x00 ∷ []) ∷ []) → ⊥
padded_in_front h = not_less 0x02 0x01 [] (0x00 ∷ []) (omega arith) (first_two (0x02 ∷ []) (0x01 ∷ 0x00 ∷ []) [] h)

-- 02 01 03 before 02 01 FF: octets have no sign, and -1 comes after 3
three_before_minus_1 : Ascends ((0x02 ∷ 0x01 ∷ 0x03 ∷ []) ∷ (0x02 ∷ 0x01 ∷ 0xFF ∷ []) ∷ [])
three_before_minus_1 =
    two_ascend (0x02 ∷ 0x01 ∷ 0x03 ∷ []) (0x02 ∷ 0x01 ∷ 0xFF ∷ [])
    (alike 0x02 (0x01 ∷ 0x03 ∷ []) (0x01 ∷ 0xFF ∷ []) (alike 0x01 (0x03 ∷ []) (0xFF ∷ []) (less 0x03 0xFF [] [] (omega arith))))

minus_1_before_3 : Ascends ((0x02 ∷ 0x01 ∷ 0xFF ∷ []) ∷ (0x02 ∷ 0x01 ∷ 0x03 ∷ []) ∷ []) → ⊥
minus_1_before_3 h =
    not_alike 0x02 (0x01 ∷ 0xFF ∷ []) (0x01 ∷ 0x03 ∷ []) (not_alike 0x01 (0xFF ∷ []) (0x03 ∷ []) (not_less 0xFF 0x03 [] [] (omega arith)))
    (first_two (0x02 ∷ 0x01 ∷ 0xFF ∷ []) (0x02 ∷ 0x01 ∷ 0x03 ∷ []) [] h)

-- 01 and 01 00 tie: each is at most the other, and they ascend either way round
tie : IsPaddedAtMost (0x01 ∷ []) (0x01 ∷ 0x00 ∷ []) × IsPaddedAtMost (0x01 ∷ 0x00 ∷ []) (0x01 ∷ [])
tie = (alike 0x01 [] (0x00 ∷ []) tt, alike 0x01 (0x00 ∷ []) [] (refl, tt))

tie_ascends : Ascends ((0x01 ∷ []) ∷ (0x01 ∷ 0x00 ∷ []) ∷ []) × Ascends ((0x01 ∷ 0x00 ∷ []) ∷ (0x01 ∷ []) ∷ [])
tie_ascends = (two_ascend (0x01 ∷ []) (0x01 ∷ 0x00 ∷ []) tie.0, two_ascend (0x01 ∷ 0x00 ∷ []) (0x01 ∷ []) tie.1)

-- but 01 and 01 01 do not
no_tie : IsPaddedAtMost (0x01 ∷ 0x01 ∷ []) (0x01 ∷ []) → ⊥
no_tie h = not_alike 0x01 (0x01 ∷ []) [] (λ g. absurd (omega (arith, g.0))) h

-- each pair counts, the first and the last
last_pair : Ascends ((0x01 ∷ []) ∷ (0x03 ∷ []) ∷ (0x02 ∷ []) ∷ []) → ⊥
last_pair h = not_less 0x03 0x02 [] [] (omega arith) (first_two (0x03 ∷ []) (0x02 ∷ []) [] (AllPairs-rest IsPaddedAtMost (0x01 ∷ []) ((0x03 ∷ []) ∷ (0x02 ∷ []) ∷ []) h))

later_pair : Ascends ((0x02 ∷ []) ∷ (0x03 ∷ []) ∷ (0x01 ∷ []) ∷ []) → ⊥
later_pair h = not_less 0x03 0x01 [] [] (omega arith) (first_two (0x03 ∷ []) (0x01 ∷ []) [] (AllPairs-rest IsPaddedAtMost (0x02 ∷ []) ((0x03 ∷ []) ∷ (0x01 ∷ []) ∷ []) h))
