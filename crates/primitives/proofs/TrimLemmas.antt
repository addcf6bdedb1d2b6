-- Lemmas on bits without the zero bits at their end.
use Rattle.std.proofs.Common.{◌≡◌, ℕ, ◌+◌, ◌*◌, ◌^◌, ◌<◌, ◌≤◌, ◌-◌, inl, inr, Bool, true, false, List, [], ◌∷◌, ◌++◌, length, take, refl, sym, ◌∙◌, ap, arith, All, get_or, zero, suc, subst, length-append, append_assoc, replicate, nat_eq}
use Rattle.std.specs.Int.{bit_at, w8}
use Rattle.std.specs.Int.Count.{count_trailing_zeros}
use Rattle.std.proofs.lemmas.Nat.Bits.{bit_at-trailing_zeros}
use Rattle.std.proofs.lemmas.List.{take_more, take_all, length-take-le, get_or_read_under, append-nil, length-replicate, get_or-replicate, get_or_past, get_or_append_left, get_or-append-add, get_or-append_right, replicate-append-replicate, append_cancel_right}
use Rattle.std.proofs.lemmas.List.Elements.{All-take}
use Rattle.std.proofs.lemmas.Bool.{cases_lt}
use Rattle.std.proofs.Math.Seq.{get_or-append_seam}
use Rattle.primitives.specs.Bits.{bit_of, bits_of_octet, bits_of, bits_before, IsPadded, IsTrimmed}
use Rattle.primitives.proofs.BitsLemmas.{length-bits_of_octet, length-bits_of, bits_of-append, bits_before-parts, IsPadded-from, IsPadded-whole, last_of}

-- zero octets stand after the first `count`
pub record AreZerosAfter (count : ℕ) (octets : List ℕ) : Type 0 where
  pub within : count ≤ length octets
  pub zeros : ℕ
  pub parts : octets ≡ take count octets ++ replicate zeros 0

pub AreZerosAfter-all : (octets : List ℕ) (count : ℕ) → count ≡ length octets → AreZerosAfter count octets
AreZerosAfter-all octets count size = record {
  within = omega arith;
  zeros = 0;
  parts = sym (append-nil (take count octets) ∙ take_all count octets (omega arith));
}

pub AreZerosAfter-less : (octets : List ℕ) (count : ℕ) → AreZerosAfter count octets → 0 < count → get_or octets (count - 1) 0 ≡ 0 → AreZerosAfter (count - 1) octets
AreZerosAfter-less octets count h some zero_there =
    let i = count - 1 in
    let next : count ≡ i + 1 = omega arith in
    let more : take count octets ≡ take i octets ++ 0 ∷ [] = ap (λ n. take n octets) next ∙ (take_more octets i 0 (omega (arith, h.within)) ∙ ap (λ x. take i octets ++ x ∷ []) zero_there) in
    record {
      within = omega (arith, h.within);
      zeros = suc h.zeros;
      parts = h.parts ∙ (ap (λ t. t ++ replicate h.zeros 0) more ∙ append_assoc (take i octets) (0 ∷ []) (replicate h.zeros 0));
    }

bits_of-zeros : (zeros : ℕ) → bits_of (replicate zeros 0) ≡ replicate (8 * zeros) false
unfolding bits_of_octet
bits_of-zeros zero = refl
bits_of-zeros (suc zeros) =
    let size : 8 + 8 * zeros ≡ 8 * suc zeros = omega arith in
    ap (λ t. replicate 8 false ++ t) (bits_of-zeros zeros) ∙ (replicate-append-replicate 8 (8 * zeros) false ∙ ap (λ n. replicate n false) size)

-- an octet up to its last bit that is 1, and the zero bits after it
octet_end : (x v : ℕ) → v ≤ 7 → bit_at x v ≡ 1 → ((i : ℕ) → i < v → bit_at x i ≡ 0) → bits_of_octet x ≡ take (7 - v) (bits_of_octet x) ++ true ∷ replicate v false
unfolding bits_of_octet
octet_end x zero low one none = let b0 : bit_of x 1 ≡ true = ap (λ n. nat_eq n 1) one in cc
octet_end x (suc zero) low one none =
    let b1 : bit_of x 2 ≡ true = ap (λ n. nat_eq n 1) one in
    let b0 : bit_of x 1 ≡ false = ap (λ n. nat_eq n 1) (none 0 (omega arith)) in
    cc
octet_end x (suc (suc zero)) low one none =
    let b2 : bit_of x 4 ≡ true = ap (λ n. nat_eq n 1) one in
    let b1 : bit_of x 2 ≡ false = ap (λ n. nat_eq n 1) (none 1 (omega arith)) in
    let b0 : bit_of x 1 ≡ false = ap (λ n. nat_eq n 1) (none 0 (omega arith)) in
    cc
octet_end x (suc (suc (suc zero))) low one none =
    let b3 : bit_of x 8 ≡ true = ap (λ n. nat_eq n 1) one in
    let b2 : bit_of x 4 ≡ false = ap (λ n. nat_eq n 1) (none 2 (omega arith)) in
    let b1 : bit_of x 2 ≡ false = ap (λ n. nat_eq n 1) (none 1 (omega arith)) in
    let b0 : bit_of x 1 ≡ false = ap (λ n. nat_eq n 1) (none 0 (omega arith)) in
    cc
octet_end x (suc (suc (suc (suc zero)))) low one none =
    let b4 : bit_of x 16 ≡ true = ap (λ n. nat_eq n 1) one in
    let b3 : bit_of x 8 ≡ false = ap (λ n. nat_eq n 1) (none 3 (omega arith)) in
    let b2 : bit_of x 4 ≡ false = ap (λ n. nat_eq n 1) (none 2 (omega arith)) in
    let b1 : bit_of x 2 ≡ false = ap (λ n. nat_eq n 1) (none 1 (omega arith)) in
    let b0 : bit_of x 1 ≡ false = ap (λ n. nat_eq n 1) (none 0 (omega arith)) in
    cc
octet_end x (suc (suc (suc (suc (suc zero))))) low one none =
    let b5 : bit_of x 32 ≡ true = ap (λ n. nat_eq n 1) one in
    let b4 : bit_of x 16 ≡ false = ap (λ n. nat_eq n 1) (none 4 (omega arith)) in
    let b3 : bit_of x 8 ≡ false = ap (λ n. nat_eq n 1) (none 3 (omega arith)) in
    let b2 : bit_of x 4 ≡ false = ap (λ n. nat_eq n 1) (none 2 (omega arith)) in
    let b1 : bit_of x 2 ≡ false = ap (λ n. nat_eq n 1) (none 1 (omega arith)) in
    let b0 : bit_of x 1 ≡ false = ap (λ n. nat_eq n 1) (none 0 (omega arith)) in
    cc
octet_end x (suc (suc (suc (suc (suc (suc zero)))))) low one none =
    let b6 : bit_of x 64 ≡ true = ap (λ n. nat_eq n 1) one in
    let b5 : bit_of x 32 ≡ false = ap (λ n. nat_eq n 1) (none 5 (omega arith)) in
    let b4 : bit_of x 16 ≡ false = ap (λ n. nat_eq n 1) (none 4 (omega arith)) in
    let b3 : bit_of x 8 ≡ false = ap (λ n. nat_eq n 1) (none 3 (omega arith)) in
    let b2 : bit_of x 4 ≡ false = ap (λ n. nat_eq n 1) (none 2 (omega arith)) in
    let b1 : bit_of x 2 ≡ false = ap (λ n. nat_eq n 1) (none 1 (omega arith)) in
    let b0 : bit_of x 1 ≡ false = ap (λ n. nat_eq n 1) (none 0 (omega arith)) in
    cc
octet_end x (suc (suc (suc (suc (suc (suc (suc zero))))))) low one none =
    let b7 : bit_of x 128 ≡ true = ap (λ n. nat_eq n 1) one in
    let b6 : bit_of x 64 ≡ false = ap (λ n. nat_eq n 1) (none 6 (omega arith)) in
    let b5 : bit_of x 32 ≡ false = ap (λ n. nat_eq n 1) (none 5 (omega arith)) in
    let b4 : bit_of x 16 ≡ false = ap (λ n. nat_eq n 1) (none 4 (omega arith)) in
    let b3 : bit_of x 8 ≡ false = ap (λ n. nat_eq n 1) (none 3 (omega arith)) in
    let b2 : bit_of x 4 ≡ false = ap (λ n. nat_eq n 1) (none 2 (omega arith)) in
    let b1 : bit_of x 2 ≡ false = ap (λ n. nat_eq n 1) (none 1 (omega arith)) in
    let b0 : bit_of x 1 ≡ false = ap (λ n. nat_eq n 1) (none 0 (omega arith)) in
    cc
octet_end x (suc (suc (suc (suc (suc (suc (suc (suc v)))))))) low one none = absurd (omega arith)

octet_bit : (x u : ℕ) → u ≤ 7 → get_or (bits_of_octet x) (7 - u) false ≡ bit_of x (2 ^ u)
unfolding bits_of_octet
octet_bit x zero low = refl
octet_bit x (suc zero) low = refl
octet_bit x (suc (suc zero)) low = refl
octet_bit x (suc (suc (suc zero))) low = refl
octet_bit x (suc (suc (suc (suc zero)))) low = refl
octet_bit x (suc (suc (suc (suc (suc zero))))) low = refl
octet_bit x (suc (suc (suc (suc (suc (suc zero)))))) low = refl
octet_bit x (suc (suc (suc (suc (suc (suc (suc zero))))))) low = refl
octet_bit x (suc (suc (suc (suc (suc (suc (suc (suc u)))))))) low = absurd (omega arith)

-- the last bit stands just before the unused ones
last_bit : (bits : List Bool) (octets : List ℕ) (unused : ℕ) → IsPadded bits octets unused → 1 ≤ length octets → get_or bits (length bits - 1) false ≡ bit_of (get_or octets (length octets - 1) 0) (2 ^ unused)
last_bit bits octets unused h some =
    let n = length octets - 1 in
    let front = take n octets in
    let x = get_or octets n 0 in
    let whole : bits_of octets ≡ bits_of front ++ (bits_of_octet x ++ []) = ap bits_of (last_of octets some) ∙ bits_of-append front (x ∷ []) in
    let size : length bits + unused ≡ 8 * length octets = omega (arith, ap length h.bits_are, length-append bits (replicate unused false), length-replicate unused false, length-bits_of octets) in
    let fronts : length (bits_of front) + 8 ≡ 8 * length octets = omega (arith, ap length whole, length-append (bits_of front) (bits_of_octet x ++ []), length-append (bits_of_octet x) [], length-bits_of_octet x, length-bits_of octets) in
    let place : length bits - 1 ≡ length (bits_of front) + (7 - unused) = omega (arith, size, fronts, h.at_most_7) in
    let left : get_or (bits ++ replicate unused false) (length bits - 1) false ≡ get_or bits (length bits - 1) false = get_or_append_left bits (replicate unused false) false (length bits - 1) (omega (arith, size, some, h.at_most_7)) in
    let right : get_or (bits_of front ++ (bits_of_octet x ++ [])) (length (bits_of front) + (7 - unused)) false ≡ get_or (bits_of_octet x ++ []) (7 - unused) false = get_or-append-add (bits_of front) (bits_of_octet x ++ []) (7 - unused) false in
    let last : get_or (bits_of_octet x ++ []) (7 - unused) false ≡ bit_of x (2 ^ unused) = ap (λ t. get_or t (7 - unused) false) (append-nil (bits_of_octet x)) ∙ octet_bit x unused h.at_most_7 in
    sym left ∙ (ap (λ t. get_or t (length bits - 1) false) (sym h.bits_are ∙ whole) ∙ (ap (λ k. get_or (bits_of front ++ (bits_of_octet x ++ [])) k false) place ∙ (right ∙ last)))

IsTrimmed-from_last : (bits : List Bool) → 1 ≤ length bits → get_or bits (length bits - 1) false ≡ true → IsTrimmed bits
IsTrimmed-from_last bits some one =
    let i = length bits - 1 in
    let size : i + 1 ≡ length bits = omega arith in
    let parts : bits ≡ take i bits ++ get_or bits i false ∷ [] = sym (take_all (length bits) bits (omega arith)) ∙ (ap (λ n. take n bits) (sym size) ∙ take_more bits i false (omega arith)) in
    inr (take i bits, parts ∙ ap (λ b. take i bits ++ b ∷ []) one)

pub last-from_IsTrimmed : (bits : List Bool) → 1 ≤ length bits → IsTrimmed bits → get_or bits (length bits - 1) false ≡ true
last-from_IsTrimmed bits some h =
    elim h [
      | inl none ↦ absurd (omega (arith, ap length none))
      | inr w ↦
          let size : length bits - 1 ≡ length w.0 = omega (arith, ap length w.1, length-append w.0 (true ∷ [])) in
          ap (λ k. get_or bits k false) size ∙ (ap (λ t. get_or t (length w.0) false) w.1 ∙ get_or-append_seam w.0 true [] false)
    ]

some_bits : (bits : List Bool) (octets : List ℕ) (unused : ℕ) → IsPadded bits octets unused → 1 ≤ length octets → 1 ≤ length bits
some_bits bits octets unused h some = omega (arith, ap length h.bits_are, length-append bits (replicate unused false), length-replicate unused false, length-bits_of octets, h.at_most_7)

pub IsTrimmed-from_bit : (bits : List Bool) (octets : List ℕ) (unused : ℕ) → IsPadded bits octets unused → 1 ≤ length octets → bit_of (get_or octets (length octets - 1) 0) (2 ^ unused) ≡ true → IsTrimmed bits
IsTrimmed-from_bit bits octets unused h some one = IsTrimmed-from_last bits (some_bits bits octets unused h some) (last_bit bits octets unused h some ∙ one)

pub bit-from_IsTrimmed : (bits : List Bool) (octets : List ℕ) (unused : ℕ) → IsPadded bits octets unused → 1 ≤ length octets → IsTrimmed bits → bit_of (get_or octets (length octets - 1) 0) (2 ^ unused) ≡ true
bit-from_IsTrimmed bits octets unused h some trimmed = sym (last_bit bits octets unused h some) ∙ last-from_IsTrimmed bits (some_bits bits octets unused h some) trimmed

-- the octets and the unused bits of trimmed bits
pub record IsTrimming (octets : List ℕ) (unused : ℕ) : Type 0 where
  pub padded : IsPadded (bits_before octets unused) octets unused
  pub trimmed : IsTrimmed (bits_before octets unused)

pub IsTrimming-none : (octets : List ℕ) → octets ≡ [] → IsTrimming octets 0
IsTrimming-none octets none =
    let below : All (λ o. o < 256) [] = λ k d there. absurd (omega arith) in
    subst (λ t. IsTrimming t 0) (sym none) record { padded = IsPadded-whole [] below; trimmed = inl refl }

pub IsTrimming-from_octet : (octets : List ℕ) (unused : ℕ) → 1 ≤ length octets → All (λ o. o < 256) octets → unused ≤ 7
    → bits_of_octet (get_or octets (length octets - 1) 0) ≡ take (7 - unused) (bits_of_octet (get_or octets (length octets - 1) 0)) ++ true ∷ replicate unused false → IsTrimming octets unused
IsTrimming-from_octet octets unused some below low bits_are =
    let front = take (length octets - 1) octets in
    let x = get_or octets (length octets - 1) 0 in
    let start = bits_of front ++ take (7 - unused) (bits_of_octet x) in
    let whole : bits_of octets ≡ bits_of front ++ (bits_of_octet x ++ []) = ap bits_of (last_of octets some) ∙ bits_of-append front (x ∷ []) in
    let last : bits_of_octet x ++ [] ≡ take (7 - unused) (bits_of_octet x) ++ true ∷ replicate unused false = append-nil (bits_of_octet x) ∙ bits_are in
    let joined : bits_of octets ≡ start ++ true ∷ replicate unused false = whole ∙ (ap (λ t. bits_of front ++ t) last ∙ sym (append_assoc (bits_of front) (take (7 - unused) (bits_of_octet x)) (true ∷ replicate unused false))) in
    let parts : bits_of octets ≡ (start ++ true ∷ []) ++ replicate unused false = joined ∙ sym (append_assoc start (true ∷ []) (replicate unused false)) in
    record {
      padded = IsPadded-from octets unused (start ++ true ∷ []) low below parts;
      trimmed = inr (start, bits_before-parts octets unused (start ++ true ∷ []) (replicate unused false) parts (length-replicate unused false));
    }

-- octets up to the last that is not zero, and its zero bits after the last that is 1
pub IsTrimming-from_front : (octets kept : List ℕ) (count x : ℕ) → All (λ o. o < 256) octets → kept ≡ take count octets → count ≤ length octets → (count ≡ 0 → ⊥) → x ≡ get_or kept (count - 1) x → 0 < x → IsTrimming kept (count_trailing_zeros 8 x)
IsTrimming-from_front octets kept count x below front within some item one =
    let size : length kept ≡ count = ap length front ∙ length-take-le count octets within in
    let there : x ≡ get_or kept (count - 1) 0 = get_or_read_under kept (count - 1) count x 0 item (omega arith) (sym size) in
    let last : x ≡ get_or kept (length kept - 1) 0 = there ∙ ap (λ n. get_or kept (n - 1) 0) (sym size) in
    let all : All (λ o. o < 256) kept = subst (All (λ o. o < 256)) (sym front) (All-take (λ o. o < 256) count octets below) in
    let small : x < 256 = subst (λ o. o < 256) (sym last) (all (length kept - 1) 0 (omega arith)) in
    let zeros = bit_at-trailing_zeros w8 x one small in
    let unused = count_trailing_zeros 8 x in
    let low : unused ≤ 7 = omega (arith, zeros.0) in
    let bits_are = octet_end x unused low zeros.1 zeros.2 in
    IsTrimming-from_octet kept unused (omega arith) all low (subst (λ o. bits_of_octet o ≡ take (7 - unused) (bits_of_octet o) ++ true ∷ replicate unused false) last bits_are)

-- after zero bits no bit is 1
zero_bit : (n i : ℕ) → get_or (replicate n false) i false ≡ false
zero_bit n i =
    elim (cases_lt i n) [
      | inl there ↦ get_or-replicate n i false false there
      | inr past ↦ get_or_past (replicate n false) i false (omega (arith, length-replicate n false))
    ]

not_shorter : (bits kept : List Bool) (z u : ℕ) → kept ++ replicate z false ≡ bits ++ replicate u false → IsTrimmed kept → length kept ≤ length bits
not_shorter bits kept z u same h =
    elim h [
      | inl none ↦ omega (arith, ap length none)
      | inr w ↦
          let f = w.0 in
          let size : length kept ≡ length f + 1 = omega (arith, ap length w.1, length-append f (true ∷ [])) in
          elim (cases_lt (length f) (length bits)) [
            | inl there ↦ omega arith
            | inr past ↦
                let whole : kept ++ replicate z false ≡ f ++ true ∷ replicate z false = ap (λ t. t ++ replicate z false) w.1 ∙ append_assoc f (true ∷ []) (replicate z false) in
                let one : get_or (f ++ true ∷ replicate z false) (length f) false ≡ true = get_or-append_seam f true (replicate z false) false in
                let none : get_or (bits ++ replicate u false) (length f) false ≡ false = get_or-append_right bits (replicate u false) (length bits) (length f) false refl past ∙ zero_bit u (length f - length bits) in
                let clash : true ≡ false = sym one ∙ (ap (λ t. get_or t (length f) false) (sym whole ∙ same) ∙ none) in
                cc
          ]
    ]

zeros_between : (bits kept : List Bool) (z u : ℕ) → kept ++ replicate z false ≡ bits ++ replicate u false → IsTrimmed kept → (zeros : ℕ) × (bits ≡ kept ++ replicate zeros false)
zeros_between bits kept z u same h =
    let k = length bits - length kept in
    let few = not_shorter bits kept z u same h in
    let size : z ≡ k + u = omega (arith, few, ap length same, length-append kept (replicate z false), length-append bits (replicate u false), length-replicate z false, length-replicate u false) in
    let split : kept ++ replicate z false ≡ (kept ++ replicate k false) ++ replicate u false = ap (λ t. kept ++ t) (ap (λ n. replicate n false) size ∙ sym (replicate-append-replicate k u false)) ∙ sym (append_assoc kept (replicate k false) (replicate u false)) in
    (k, append_cancel_right bits (kept ++ replicate k false) (replicate u false) (sym same ∙ split))

pub trimmed_front : (bits kept : List Bool) (o p : List ℕ) (u v z : ℕ) → IsPadded bits o u → IsPadded kept p v → IsTrimmed kept → o ≡ p ++ replicate z 0 → (zeros : ℕ) × (bits ≡ kept ++ replicate zeros false)
trimmed_front bits kept o p u v z f g h parts =
    let whole : bits_of o ≡ bits_of p ++ replicate (8 * z) false = ap bits_of parts ∙ (bits_of-append p (replicate z 0) ∙ ap (λ t. bits_of p ++ t) (bits_of-zeros z)) in
    let split : bits_of p ++ replicate (8 * z) false ≡ kept ++ replicate (v + 8 * z) false = ap (λ t. t ++ replicate (8 * z) false) g.bits_are ∙ (append_assoc kept (replicate v false) (replicate (8 * z) false) ∙ ap (λ t. kept ++ t) (replicate-append-replicate v (8 * z) false)) in
    zeros_between bits kept (v + 8 * z) u (sym (whole ∙ split) ∙ f.bits_are) h
