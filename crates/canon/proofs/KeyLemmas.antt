-- Lemmas on octets that are compared by the number of the first ones.
use Rattle.std.proofs.Common.{◌≡◌, ◌∙◌, inl, inr, ◌+◌, ◌-◌, ◌*◌, ◌^◌, ◌%◌, ◌<◌, ◌≤◌, ℕ, zero, suc, List, [], ◌∷◌, length, min, take, drop, get_or, map, refl, sym, ap, subst, arith, All, drop-cons}
use Rattle.std.specs.Ordering.{nat_cmp, ordering_then, MatchOrdering}
use Rattle.std.specs.Cmp.{ranked}
use Rattle.std.specs.Cmp.Lexicographic.{slice_cmp}
use Rattle.std.specs.declared.cmp.Ordering.{Ordering}
use Rattle.std.specs.declared.cmp.Ordering.TheVariants.{Less, Equal, Greater}
use Rattle.std.proofs.Math.Nat.{add-mul, mul_assoc, mod-eq_of_lt, one-le-pow, pow-zero, pow-suc}
use Rattle.std.proofs.Math.Seq.{drop-nil}
use Rattle.std.proofs.lemmas.List.{drop_all, drop-drop, take_all, take-take, take_min, length-take, length-drop}
use Rattle.std.proofs.lemmas.Nat.{mul-add-lt, mod_low, pow-add}
use Rattle.octets.specs.Digits.{number_of}
use Rattle.octets.proofs.DigitLemmas.{All-tail, mul-above, number_of-append, number_of-below}
use Rattle.types.specs.Order.{IsPaddedAtMost}
use Rattle.canon.specs.Span.{part_of, key_of}
use Rattle.canon.specs.Keyed.{HasKey, compared}
use Rattle.canon.proofs.PartLemmas.{take_two}
use Rattle.canon.specs.declared.spans.Span.{Span}
use Rattle.canon.specs.declared.spans.Keyed.{Keyed}
use Rattle.std.proofs.lemmas.List.Elements.{All-take, All-drop}

pub key_of-nil : (k : ℕ) → key_of k [] ≡ 0
key_of-nil zero = refl
key_of-nil (suc k) = refl

pub key_of-below : (k : ℕ) (xs : List ℕ) → All (λ d. d < 256) xs → key_of k xs < 256 ^ k
key_of-below zero xs h = let none = pow-zero 256 in omega (arith, none)
key_of-below (suc k) [] h = let some = one-le-pow (suc k) 256 (omega arith) in omega (arith, some)
key_of-below (suc k) (x ∷ xs) h =
    let first : x < 256 = h 0 0 (omega arith) in
    let rest = key_of-below k xs (All-tail (λ d. d < 256) x xs h) in
    let all = mul-add-lt x (256 ^ k) (key_of k xs) 256 first rest in
    let power : 256 ^ suc k ≡ 256 ^ k * 256 = pow-suc 256 k in
    omega (arith, all, power)

-- the digits on the left decide before those on the right
more_on_left : (x y P f g : ℕ) → y < x → g < P → x * P + f ≤ y * P + g → ⊥
more_on_left x y P f g more small less =
    let next : (y + 1) * P ≡ y * P + 1 * P = add-mul y 1 P in
    let rest : (y + 1 + (x - (y + 1))) * P ≡ (y + 1) * P + (x - (y + 1)) * P = add-mul (y + 1) (x - (y + 1)) P in
    let all : x * P ≡ (y + 1 + (x - (y + 1))) * P = ap (λ k. k * P) (omega arith) in
    omega (arith, next, rest, all, less, small)

less_step : (P x y f g : ℕ) (xs ys : List ℕ) (o : Ordering) → MatchOrdering o (x < y) (x ≡ y) (y < x) → g < P → x * P + f < y * P + g → (f < g → IsPaddedAtMost xs ys) → IsPaddedAtMost (x ∷ xs) (y ∷ ys)
less_step P x y f g xs ys Less m small less rest = inl m
less_step P x y f g xs ys Equal m small less rest = inr (m, rest (omega (arith, ap (λ k. k * P) m, less)))
less_step P x y f g xs ys Greater m small less rest = absurd (more_on_left x y P f g m small (omega (arith, less)))

-- octets whose key is the smaller number come first
pub key_of-less : (k : ℕ) (xs ys : List ℕ) → All (λ d. d < 256) ys → key_of k xs < key_of k ys → IsPaddedAtMost xs ys
key_of-less zero xs ys h less = absurd (omega arith)
key_of-less (suc k) [] ys h less = tt
key_of-less (suc k) (x ∷ xs) [] h less = absurd (omega arith)
key_of-less (suc k) (x ∷ xs) (y ∷ ys) h less =
    let tail = All-tail (λ d. d < 256) y ys h in
    less_step (256 ^ k) x y (key_of k xs) (key_of k ys) xs ys (nat_cmp x y) (ranked x y (nat_cmp x y) refl) (key_of-below k ys tail) less (key_of-less k xs ys tail)

same_step : (P x y f g : ℕ) (xs ys : List ℕ) (o : Ordering) → MatchOrdering o (x < y) (x ≡ y) (y < x) → f < P → g < P → x * P + f ≡ y * P + g → (f ≡ g → IsPaddedAtMost xs ys) → IsPaddedAtMost (x ∷ xs) (y ∷ ys)
same_step P x y f g xs ys Less m low high same rest = inl m
same_step P x y f g xs ys Equal m low high same rest = inr (m, rest (omega (arith, ap (λ k. k * P) m, same)))
same_step P x y f g xs ys Greater m low high same rest = absurd (more_on_left x y P f g m high (omega (arith, same)))

-- where keys are the same number, the octets behind them decide
pub key_of-same : (k : ℕ) (xs ys : List ℕ) → All (λ d. d < 256) xs → All (λ d. d < 256) ys → key_of k xs ≡ key_of k ys → IsPaddedAtMost (drop k xs) (drop k ys) → IsPaddedAtMost xs ys
key_of-same zero xs ys h g same rest = rest
key_of-same (suc k) [] ys h g same rest = tt
key_of-same (suc k) (x ∷ xs) [] h g same rest =
    let some = one-le-pow k 256 (omega arith) in
    let above = mul-above x (256 ^ k) (omega (arith, some)) in
    (omega (arith, above, same), key_of-same k xs [] (All-tail (λ d. d < 256) x xs h) (λ j d below. absurd (omega arith)) (omega (arith, same, key_of-nil k)) (subst (IsPaddedAtMost (drop k xs)) (sym (drop-nil k)) rest))
key_of-same (suc k) (x ∷ xs) (y ∷ ys) h g same rest =
    let left = All-tail (λ d. d < 256) x xs h in
    let right = All-tail (λ d. d < 256) y ys g in
    same_step (256 ^ k) x y (key_of k xs) (key_of k ys) xs ys (nat_cmp x y) (ranked x y (nat_cmp x y) refl) (key_of-below k xs left) (key_of-below k ys right) same (λ e. key_of-same k xs ys left right e rest)

-- so many octets were read as a number
abbrev pub IsRead : List ℕ → ℕ → ℕ → Type 0
IsRead xs i number = number * 256 ^ (16 - i) + key_of (16 - i) (drop i xs) ≡ key_of 16 xs

-- the octet there
abbrev pub IsOctet : List ℕ → ℕ → ℕ → Type 0
IsOctet xs i d = (d < 256) × ((left : ℕ) → key_of (suc left) (drop i xs) ≡ d * 256 ^ left + key_of left (drop (suc i) xs))

pub octet_there : (xs : List ℕ) (i d : ℕ) → i < length xs → d ≡ get_or xs i 0 → d < 256 → IsOctet xs i d
octet_there xs i d there at small = (small, λ left. ap (key_of (suc left)) (drop-cons xs i 0 there) ∙ ap (λ k. k * 256 ^ left + key_of left (drop (suc i) xs)) (sym at))

read_step : (number d P : ℕ) → (number * 256 + d) * P ≡ number * (P * 256) + d * P
read_step number d P =
    let spread : (number * 256 + d) * P ≡ number * 256 * P + d * P = add-mul (number * 256) d P in
    let regroup : number * 256 * P ≡ number * (256 * P) = mul_assoc number 256 P in
    let turned : number * (256 * P) ≡ number * (P * 256) = ap (λ k. number * k) (omega arith) in
    omega (arith, spread, regroup, turned)

read_one : (xs : List ℕ) (i number d left : ℕ) → 16 - i ≡ suc left → IsRead xs i number → IsOctet xs i d → (number * 256 + d) * 256 ^ left + key_of left (drop (suc i) xs) ≡ key_of 16 xs
read_one xs i number d left next h one =
    let here : number * 256 ^ suc left + key_of (suc left) (drop i xs) ≡ key_of 16 xs = subst (λ k. number * 256 ^ k + key_of k (drop i xs) ≡ key_of 16 xs) next h in
    let power : number * 256 ^ suc left ≡ number * (256 ^ left * 256) = ap (λ k. number * k) (pow-suc 256 left) in
    omega (arith, here, power, one.1 left, read_step number d (256 ^ left))

pub read_more : (xs : List ℕ) (i number d : ℕ) → i < 16 → IsRead xs i number → IsOctet xs i d → IsRead xs (i + 1) (number * 256 + d)
read_more xs i number d below h one =
    let next : 16 - (i + 1) ≡ 15 - i = omega arith in
    let after : i + 1 ≡ suc i = omega arith in
    subst (λ k. (number * 256 + d) * 256 ^ k + key_of k (drop (i + 1) xs) ≡ key_of 16 xs) (sym next)
    (subst (λ k. (number * 256 + d) * 256 ^ (15 - i) + key_of (15 - i) (drop k xs) ≡ key_of 16 xs) (sym after) (read_one xs i number d (15 - i) (omega arith) h one))

-- the number fits 128 bits
pub read_fits : (xs : List ℕ) (i number d : ℕ) → i < 16 → All (λ o. o < 256) xs → IsRead xs i number → IsOctet xs i d → number * 256 + d < 2 ^ 128
read_fits xs i number d below octets h one =
    let whole = read_one xs i number d (15 - i) (omega arith) h one in
    let some = one-le-pow (15 - i) 256 (omega arith) in
    let above = mul-above (number * 256 + d) (256 ^ (15 - i)) (omega (arith, some)) in
    let most : key_of 16 xs < 2 ^ 128 = key_of-below 16 xs octets in
    omega (arith, whole, above, most)

no_octets_behind : (left i : ℕ) (xs : List ℕ) → (1 ≤ left → length xs ≤ i) → key_of left (drop i xs) ≡ 0
no_octets_behind zero i xs h = refl
no_octets_behind (suc left) i xs h = ap (key_of (suc left)) (drop_all i xs (h (omega arith)))

octets_as_bits : (n : ℕ) → 256 ^ n ≡ 2 ^ (8 * n)
octets_as_bits zero = refl
octets_as_bits (suc n) =
    let bits : 8 * suc n ≡ 8 * n + 8 = omega arith in
    rw (pow-suc 256 n, octets_as_bits n, bits, pow-add 2 (8 * n) 8) refl

-- zeros stand for the octets that are not there
pub read_shifted : (xs : List ℕ) (i there number : ℕ) → there ≡ min (length xs) 16 → i ≡ there → All (λ o. o < 256) xs → IsRead xs i number → (number * 2 ^ (8 * (16 - there))) % 2 ^ 128 ≡ key_of 16 xs
read_shifted xs i there number is end octets h =
    let none : key_of (16 - i) (drop i xs) ≡ 0 = no_octets_behind (16 - i) i xs (λ some. omega (arith, some, is, end)) in
    let power : 2 ^ (8 * (16 - there)) ≡ 256 ^ (16 - i) = ap (λ j. 2 ^ (8 * (16 - j))) (sym end) ∙ sym (octets_as_bits (16 - i)) in
    let same : number * 2 ^ (8 * (16 - there)) ≡ number * 256 ^ (16 - i) = ap (λ k. number * k) power in
    let whole : number * 2 ^ (8 * (16 - there)) ≡ key_of 16 xs = omega (arith, same, h, none) in
    ap (λ k. k % 2 ^ 128) whole ∙ mod-eq_of_lt (key_of-below 16 xs octets)

-- what is behind the first octets does not count
key_of-front : (k : ℕ) (xs : List ℕ) → key_of k (take k xs) ≡ key_of k xs
key_of-front zero xs = refl
key_of-front (suc k) [] = refl
key_of-front (suc k) (x ∷ xs) = ap (λ n. x * 256 ^ k + n) (key_of-front k xs)

-- zeros stand behind octets that are few
key_of-whole : (k : ℕ) (xs : List ℕ) → length xs ≤ k → key_of k xs ≡ number_of 256 xs * 256 ^ (k - length xs)
key_of-whole k [] h = omega (arith, key_of-nil k)
key_of-whole zero (x ∷ xs) h = absurd (omega arith)
key_of-whole (suc k) (x ∷ xs) h =
    let L = length xs in
    let left : suc k - length (x ∷ xs) ≡ k - L = omega arith in
    let power : 256 ^ (L + (k - L)) ≡ 256 ^ L * 256 ^ (k - L) = pow-add 256 L (k - L) in
    let whole : 256 ^ k ≡ 256 ^ L * 256 ^ (k - L) = ap (λ n. 256 ^ n) (omega arith) ∙ power in
    let first : x * 256 ^ k ≡ x * (256 ^ L * 256 ^ (k - L)) = ap (λ n. x * n) whole in
    let regroup : x * 256 ^ L * 256 ^ (k - L) ≡ x * (256 ^ L * 256 ^ (k - L)) = mul_assoc x (256 ^ L) (256 ^ (k - L)) in
    let spread : (x * 256 ^ L + number_of 256 xs) * 256 ^ (k - L) ≡ x * 256 ^ L * 256 ^ (k - L) + number_of 256 xs * 256 ^ (k - L) = add-mul (x * 256 ^ L) (number_of 256 xs) (256 ^ (k - L)) in
    let rest = key_of-whole k xs (omega (arith, h)) in
    rw left (omega (arith, first, regroup, spread, rest))

-- the number of octets, the first of which are apart
number_of-two : (n m : ℕ) (xs : List ℕ) → n + m ≤ length xs → number_of 256 (take (n + m) xs) ≡ number_of 256 (take n xs) * 256 ^ m + number_of 256 (take m (drop n xs))
number_of-two n m xs h =
    let size : length (take m (drop n xs)) ≡ m = omega (arith, h, length-take m (drop n xs), length-drop n xs) in
    ap (number_of 256) (take_two n m xs) ∙ number_of-append 256 (take n xs) (take m (drop n xs)) ∙ ap (λ k. number_of 256 (take n xs) * 256 ^ k + number_of 256 (take m (drop n xs))) size

-- the first 16 octets of a part
first_octets : (buffer : List ℕ) (span : Span) (there : ℕ) → there ≡ min (length (part_of buffer span)) 16 → take there (drop span.start buffer) ≡ take 16 (part_of buffer span)
first_octets buffer span there is =
    let xs = drop span.start buffer in
    let m = span.end - span.start in
    let within : there ≤ m = omega (arith, is, length-take m xs) in
    let same : min 16 (length (take m xs)) ≡ there = omega (arith, is) in
    sym (take-take there m xs within) ∙ ap (λ k. take k (take m xs)) (sym same) ∙ take_min 16 (take m xs)

-- the octets in front of a part are shifted out of two words
pub words_shifted : (buffer : List ℕ) (span : Span) (there stop high low : ℕ) → All (λ d. d < 256) buffer → there ≡ min (length (part_of buffer span)) 16 → stop ≡ span.start + there → 16 ≤ stop → stop ≤ length buffer
    → high ≡ number_of 256 (take 8 (drop (stop - 16) buffer)) → low ≡ number_of 256 (take 8 (drop (stop - 8) buffer)) → ((high * 2 ^ 64 + low) * 2 ^ (8 * (16 - there))) % 2 ^ 128 ≡ key_of 16 (part_of buffer span)
words_shifted buffer span there stop high low octets is at above within first second =
    let xs = drop (stop - 16) buffer in
    let ys = part_of buffer span in
    let front = take 16 ys in
    let left = 16 - there in
    let A = number_of 256 (take left xs) in
    let B = number_of 256 (take there (drop span.start buffer)) in
    let P = 256 ^ left in
    let room : 16 ≤ length xs = omega (arith, above, within, length-drop (stop - 16) buffer) in
    let few : there ≤ 16 = omega (arith, is) in
    let behind : drop 8 xs ≡ drop (stop - 8) buffer = drop-drop 8 (stop - 16) buffer ∙ ap (λ k. drop k buffer) (omega (arith, above)) in
    let words : number_of 256 (take 16 xs) ≡ high * 2 ^ 64 + low =
    number_of-two 8 8 xs room ∙ ap (λ zs. number_of 256 (take 8 xs) * 256 ^ 8 + number_of 256 (take 8 zs)) behind ∙ omega (arith, first, second) in
    let part : drop left xs ≡ drop span.start buffer = drop-drop left (stop - 16) buffer ∙ ap (λ k. drop k buffer) (omega (arith, above, at, few)) in
    let sixteen : 16 ≡ left + there = omega (arith, few) in
    let split : number_of 256 (take 16 xs) ≡ A * 256 ^ there + B =
    ap (λ k. number_of 256 (take k xs)) sixteen ∙ number_of-two left there xs (omega (arith, room, few)) ∙ ap (λ zs. A * 256 ^ there + number_of 256 (take there zs)) part in
    let size : length front ≡ there = omega (arith, is, length-take 16 ys) in
    let key : B * P ≡ key_of 16 ys =
    ap (λ zs. number_of 256 zs * P) (first_octets buffer span there is) ∙ ap (λ k. number_of 256 front * 256 ^ (16 - k)) (sym size) ∙ sym (key_of-whole 16 front (omega (arith, size, few))) ∙ key_of-front 16 ys in
    let spread : (A * 256 ^ there + B) * P ≡ A * 256 ^ there * P + B * P = add-mul (A * 256 ^ there) B P in
    let turned : there + left ≡ 16 = omega (arith, few) in
    let power : 256 ^ there * P ≡ 256 ^ 16 = sym (pow-add 256 there left) ∙ ap (λ k. 256 ^ k) turned in
    let out : A * 256 ^ there * P ≡ A * 2 ^ 128 = mul_assoc A (256 ^ there) P ∙ ap (λ k. A * k) power in
    let number : high * 2 ^ 64 + low ≡ A * 256 ^ there + B = sym words ∙ split in
    let shifted : (high * 2 ^ 64 + low) * 2 ^ (8 * left) ≡ (A * 256 ^ there + B) * P = ap (λ k. k * 2 ^ (8 * left)) number ∙ ap (λ k. (A * 256 ^ there + B) * k) (sym (octets_as_bits left)) in
    let whole : (high * 2 ^ 64 + low) * 2 ^ (8 * left) ≡ A * 2 ^ 128 + key_of 16 ys = omega (arith, shifted, spread, out, key) in
    let small : key_of 16 ys < 2 ^ 128 = key_of-below 16 ys (All-take (λ d. d < 256) (span.end - span.start) (drop span.start buffer) (All-drop (λ d. d < 256) span.start buffer octets)) in
    ap (λ k. k % 2 ^ 128) whole ∙ mod_low A 128 (key_of 16 ys) small

-- the octets that both have are shifted out of the last four
pub halves_shifted : (xs : List ℕ) (n first last : ℕ) → All (λ d. d < 256) xs → length xs ≡ n → 4 ≤ n → n ≤ 8 → first ≡ number_of 256 (take 4 xs) → last ≡ number_of 256 (take 4 (drop (n - 4) xs))
    → (first * 2 ^ 32 + (last * 2 ^ (8 * (8 - n))) % 2 ^ 32) * 2 ^ 64 ≡ key_of 16 xs
halves_shifted xs n first last octets size some few left right =
    let m = n - 4 in
    let k = 8 - n in
    let A = number_of 256 (take k (drop m xs)) in
    let B = number_of 256 (take m (drop 4 xs)) in
    let P = 256 ^ k in
    let bits : 2 ^ (8 * k) ≡ P = sym (octets_as_bits k) in
    let all : n ≡ 4 + m = omega (arith, some) in
    let whole : number_of 256 xs ≡ first * 256 ^ m + B =
    ap (number_of 256) (sym (take_all n xs (omega (arith, size)))) ∙ ap (λ j. number_of 256 (take j xs)) all ∙ number_of-two 4 m xs (omega (arith, size, some)) ∙ ap (λ f. f * 256 ^ m + B) (sym left) in
    let four : 4 ≡ k + m = omega (arith, some, few) in
    let added : m + k ≡ 4 = omega (arith, some, few) in
    let behind : drop k (drop m xs) ≡ drop 4 xs = drop-drop k m xs ∙ ap (λ j. drop j xs) added in
    let halves : last ≡ A * 256 ^ m + B =
    right ∙ ap (λ j. number_of 256 (take j (drop m xs))) four ∙ number_of-two k m (drop m xs) (omega (arith, size, some, few, length-drop m xs)) ∙ ap (λ zs. A * 256 ^ m + number_of 256 (take m zs)) behind in
    let power : 256 ^ m * P ≡ 2 ^ 32 = sym (pow-add 256 m k) ∙ ap (λ j. 256 ^ j) added in
    let moved : last * 2 ^ (8 * k) ≡ A * 2 ^ 32 + B * P =
    ap (λ f. last * f) bits ∙ ap (λ f. f * P) halves ∙ add-mul (A * 256 ^ m) B P ∙ ap (λ f. f + B * P) (mul_assoc A (256 ^ m) P ∙ ap (λ f. A * f) power) in
    let rest : length (take m (drop 4 xs)) ≡ m = omega (arith, size, some, length-take m (drop 4 xs), length-drop 4 xs) in
    let below : B < 256 ^ m = subst (λ j. B < 256 ^ j) rest (number_of-below 256 (take m (drop 4 xs)) (All-take (λ d. d < 256) m (drop 4 xs) (All-drop (λ d. d < 256) 4 xs octets))) in
    let small : B * P < 2 ^ 32 = omega (arith, mul-add-lt B P 0 (256 ^ m) below (one-le-pow k 256 (omega arith)), power) in
    let kept : (last * 2 ^ (8 * k)) % 2 ^ 32 ≡ B * P = ap (λ j. j % 2 ^ 32) moved ∙ mod_low A 32 (B * P) small in
    let spread : (first * 256 ^ m + B) * P ≡ first * 256 ^ m * P + B * P = add-mul (first * 256 ^ m) B P in
    let front : first * 256 ^ m * P ≡ first * 2 ^ 32 = mul_assoc first (256 ^ m) P ∙ ap (λ f. first * f) power in
    let word : first * 2 ^ 32 + (last * 2 ^ (8 * k)) % 2 ^ 32 ≡ (first * 256 ^ m + B) * P = omega (arith, kept, spread, front) in
    let left_over : 16 - length xs ≡ k + 8 = omega (arith, size, few) in
    let wide : 256 ^ (16 - length xs) ≡ P * 2 ^ 64 = ap (λ j. 256 ^ j) left_over ∙ pow-add 256 k 8 in
    ap (λ j. j * 2 ^ 64) word ∙ mul_assoc (first * 256 ^ m + B) P (2 ^ 64) ∙ ap (λ j. (first * 256 ^ m + B) * j) (sym wide) ∙ ap (λ j. j * 256 ^ (16 - length xs)) (sym whole)
    ∙ sym (key_of-whole 16 xs (omega (arith, size, few)))

-- what parts are compared by decides their order
pub compared_decides : (buffer : List ℕ) → All (λ d. d < 256) buffer → (a b : Keyed ℕ) → HasKey buffer a → HasKey buffer b → IsPaddedAtMost (compared buffer b) (compared buffer a) → IsPaddedAtMost (part_of buffer b.span) (part_of buffer a.span)
compared_decides buffer octets a b is of h =
    let within : (span : Span) → All (λ d. d < 256) (part_of buffer span) = λ span. All-take (λ d. d < 256) (span.end - span.start) (drop span.start buffer) (All-drop (λ d. d < 256) span.start buffer octets) in
    let x = part_of buffer b.span in
    let y = part_of buffer a.span in
    elim h [
      | inl less ↦ key_of-less 16 x y (within a.span) (omega (arith, less, is, of))
      | inr same ↦ key_of-same 16 x y (within b.span) (within a.span) (sym of ∙ same.0 ∙ is) same.1
    ]

nothing_behind : (buffer : List ℕ) (span : Span) → span.end - span.start ≤ 16 → drop 16 (part_of buffer span) ≡ []
nothing_behind buffer span short = drop_all 16 (part_of buffer span) (omega (arith, short, length-take (span.end - span.start) (drop span.start buffer)))

same_key : (x : ℕ) (o : Ordering) → MatchOrdering o (x < x) (x ≡ x) (x < x) → Equal ≡ ordering_then o Equal
same_key x Less h = absurd (omega (arith, h))
same_key x Equal h = refl
same_key x Greater h = absurd (omega (arith, h))

-- nothing is behind two keys that are the same
pub compared_same : (buffer : List ℕ) (a b : Keyed ℕ) → a.key ≡ b.key → a.span.end - a.span.start ≤ 16 → b.span.end - b.span.start ≤ 16 → Equal ≡ slice_cmp nat_cmp (compared buffer a) (compared buffer b)
compared_same buffer a b same short low =
    let left : compared buffer a ≡ b.key ∷ [] = ap (λ k. k ∷ drop 16 (part_of buffer a.span)) same ∙ ap (λ r. b.key ∷ r) (nothing_behind buffer a.span short) in
    let right : compared buffer b ≡ b.key ∷ [] = ap (λ r. b.key ∷ r) (nothing_behind buffer b.span low) in
    same_key b.key (nat_cmp b.key b.key) (ranked b.key b.key (nat_cmp b.key b.key) refl) ∙ ap (λ xs. slice_cmp nat_cmp xs (b.key ∷ [])) (sym left) ∙ ap (slice_cmp nat_cmp (compared buffer a)) (sym right)

-- parts by their spans
pub parts_again : (buffer : List ℕ) (fs : List (Keyed ℕ)) → map (part_of buffer) (map (λ (one : Keyed ℕ). one.span) fs) ≡ map (λ (one : Keyed ℕ). part_of buffer one.span) fs
parts_again buffer [] = refl
parts_again buffer (f ∷ fs) = ap (λ r. part_of buffer f.span ∷ r) (parts_again buffer fs)
