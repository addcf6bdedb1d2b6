-- Lemmas on one subidentifier.
use Rattle.std.proofs.Common.{◌≡◌, ◌≢◌, ℕ, ◌+◌, ◌*◌, ◌^◌, ◌<◌, ◌≤◌, ◌%◌, List, [], ◌∷◌, ◌++◌, length, take, drop, refl, sym, ◌∙◌, ap, arith, All, get_or, subst, length-append}
use Rattle.std.proofs.lemmas.List.{take_more, take-append-drop, length-take-le}
use Rattle.std.proofs.Math.Nat.{pow-le-pow_right, mul-le-mul_left}
use Rattle.octets.specs.Base128.{base_128_octets, IsBase128}
use Rattle.octets.specs.Digits.{number_of}
use Rattle.octets.specs.Front.{HasFront}
use Rattle.octets.proofs.DigitLemmas.{number_of-append, All-tail}
use Rattle.octets.proofs.Base128Lemmas.{continuing_octets, length-base_128_octets, continuing_octets-snoc}
use Rattle.octets.proofs.Base128SpellingLemmas.{AreDigits, AreDigits-snoc, IsBase128-snoc}
use Rattle.octets.proofs.IdentifierLemmas.{base_128_octets_unique}
use Rattle.std.proofs.lemmas.List.Elements.{All-nil}
use Rattle.primitives.specs.Oid.{IsReadSubidentifier}

-- the first i octets are digits that others follow
pub record IsBegun (octets : List ℕ) (i number : ℕ) : Type 0 where
  pub digits : List ℕ
  pub size : length digits ≡ i
  pub are_digits : AreDigits number digits
  pub spelt : take i octets ≡ continuing_octets digits

pub IsBegun-more : (octets : List ℕ) (i number octet : ℕ) → IsBegun octets i number → i < length octets → get_or octets i 0 ≡ octet → 128 ≤ octet → octet < 256 → (i ≡ 0 → octet ≢ 128) → IsBegun octets (i + 1) (number * 128 + octet % 128)
IsBegun-more octets i number octet h below item high low first =
    let d = octet % 128 in
    let whole : octet ≡ 128 + d = omega arith in
    let last : get_or octets i 0 ∷ [] ≡ (128 + d) ∷ [] = ap (λ n. n ∷ []) (item ∙ whole) in
    record {
      digits = h.digits ++ d ∷ [];
      size = omega (arith, length-append h.digits (d ∷ []), h.size);
      are_digits = AreDigits-snoc number d h.digits h.are_digits (omega arith) (λ none is_zero. first (omega (arith, none, h.size)) (omega (arith, whole, is_zero)));
      spelt = take_more octets i 0 below ∙ (ap (λ t. t ++ get_or octets i 0 ∷ []) h.spelt ∙ (ap (λ t. continuing_octets h.digits ++ t) last ∙ sym (continuing_octets-snoc h.digits d)));
    }

pub IsBase128-from_begun : (octets : List ℕ) (i number octet : ℕ) → IsBegun octets i number → i < length octets → get_or octets i 0 ≡ octet → octet < 128 → IsBase128 (number * 128 + octet % 128) (take (i + 1) octets)
IsBase128-from_begun octets i number octet h below item low =
    let d = octet % 128 in
    let whole : octet ≡ d = omega arith in
    let last : get_or octets i 0 ∷ [] ≡ d ∷ [] = ap (λ n. n ∷ []) (item ∙ whole) in
    let spelt : take (i + 1) octets ≡ continuing_octets h.digits ++ d ∷ [] = take_more octets i 0 below ∙ (ap (λ t. t ++ get_or octets i 0 ∷ []) h.spelt ∙ ap (λ t. continuing_octets h.digits ++ t) last) in
    subst (IsBase128 (number * 128 + d)) (sym spelt) (IsBase128-snoc number d h.digits h.are_digits (omega arith))

-- of no octets
pub IsBegun-none : (octets : List ℕ) → IsBegun octets 0 0
IsBegun-none octets = record {
  digits = [];
  size = refl;
  are_digits = record { below_128 = All-nil (λ digit. digit < 128); no_leading_zero = λ some. absurd (omega (arith, some)); value = refl };
  spelt = refl;
}

-- a subidentifier of one octet
pub one_octet : (octets : List ℕ) (o : ℕ) → 0 < length octets → get_or octets 0 0 ≡ o → o < 128 → IsReadSubidentifier octets o 1
one_octet octets o some item low =
    let last = IsBase128-from_begun octets 0 0 o (IsBegun-none octets) some item low in
    let value : 0 * 128 + o % 128 ≡ o = omega arith in
    record { there = omega arith; within = omega arith; spelt = subst (λ n. IsBase128 n (take 1 octets)) value last }

-- digits that go on from others
record GoOn (ds es : List ℕ) : Type 0 where
  more : List ℕ
  some : 1 ≤ length more
  whole : es ≡ ds ++ more

GoOn-cons : (d e : ℕ) (ds es : List ℕ) → d ≡ e → GoOn ds es → GoOn (d ∷ ds) (e ∷ es)
GoOn-cons d e ds es first h = record { more = h.more; some = h.some; whole = ap (λ n. n ∷ es) (sym first) ∙ ap (λ t. d ∷ t) h.whole }

go_on : (ds es r s : List ℕ) → All (λ d. d < 128) es → 1 ≤ length es → continuing_octets ds ++ r ≡ base_128_octets es ++ s → GoOn ds es
go_on [] es r s low some whole = record { more = es; some = some; whole = refl }
go_on (d ∷ ds) [] r s low some whole = absurd (omega arith)
go_on (d ∷ ds) (e ∷ []) r s low some whole =
    let same : 128 + d ≡ e = cc in
    let below : e < 128 = low 0 0 (omega arith) in
    absurd (omega arith)
go_on (d ∷ ds) (e ∷ f ∷ es) r s low some whole =
    let firsts : 128 + d ≡ 128 + e = cc in
    let first : d ≡ e = omega arith in
    let rests : continuing_octets ds ++ r ≡ base_128_octets (f ∷ es) ++ s = cc in
    let h = go_on ds (f ∷ es) r s (All-tail (λ x. x < 128) e (f ∷ es) low) (omega arith) rests in
    GoOn-cons d e ds (f ∷ es) first h

begun_goes_on : (octets : List ℕ) (i number n m : ℕ) (h : IsBegun octets i number) (g : IsBase128 m (take n octets)) → GoOn h.digits g.digits
begun_goes_on octets i number n m h g =
    let left : continuing_octets h.digits ++ drop i octets ≡ octets = ap (λ t. t ++ drop i octets) (sym h.spelt) ∙ take-append-drop i octets in
    let right : base_128_octets g.digits ++ drop n octets ≡ octets = ap (λ t. t ++ drop n octets) (sym g.spelt) ∙ take-append-drop n octets in
    go_on h.digits g.digits (drop i octets) (drop n octets) g.below_128 g.at_least_one (left ∙ sym right)

-- digits that go on make a number too great
pub no_subidentifier-great : (octets : List ℕ) (i begun number : ℕ) → IsBegun octets i begun → 2 ^ 121 ≤ begun → number < 2 ^ 128 → HasFront (IsBase128 number) octets → ⊥
no_subidentifier-great octets i begun number h great small f =
    let g = f.2 in
    let on = begun_goes_on octets i begun f.0 number h g in
    let value : number_of 128 g.digits ≡ number_of 128 h.digits * 128 ^ length on.more + number_of 128 on.more = ap (number_of 128) on.whole ∙ number_of-append 128 h.digits on.more in
    let power : 128 ^ 1 ≤ 128 ^ length on.more = pow-le-pow_right {n = 128} (omega arith) {i = 1} {j = length on.more} on.some in
    let once : 128 ^ 1 ≡ 128 = refl in
    let least : number_of 128 h.digits * 128 ≤ number_of 128 h.digits * 128 ^ length on.more = mul-le-mul_left (number_of 128 h.digits) (omega (arith, power, once)) in
    let limit : 2 ^ 121 * 128 ≡ 2 ^ 128 = refl in
    omega (arith, value, least, limit, g.value, h.are_digits.value)

-- octets that all have bit 8 set begin with no subidentifier
pub no_subidentifier-open : (octets : List ℕ) (begun number : ℕ) → IsBegun octets (length octets) begun → HasFront (IsBase128 number) octets → ⊥
no_subidentifier-open octets begun number h f =
    let g = f.2 in
    let on = begun_goes_on octets (length octets) begun f.0 number h g in
    omega (arith, ap length on.whole, length-append h.digits on.more, on.some, h.size, ap length g.spelt, length-base_128_octets g.digits, length-take-le f.0 octets f.1, f.1)

-- two subidentifiers at the front of one list are the same
pub record IsSameSubidentifier (m n : ℕ) (a b r s : List ℕ) : Type 0 where
  pub value : m ≡ n
  pub octets : a ≡ b
  pub rest : r ≡ s

pub subidentifier_unique : (m n : ℕ) (a b r s : List ℕ) → IsBase128 m a → IsBase128 n b → a ++ r ≡ b ++ s → IsSameSubidentifier m n a b r s
subidentifier_unique m n a b r s f g whole =
    let fronts : base_128_octets f.digits ++ r ≡ base_128_octets g.digits ++ s = ap (λ t. t ++ r) (sym f.spelt) ∙ (whole ∙ ap (λ t. t ++ s) g.spelt) in
    let h = base_128_octets_unique f.digits g.digits r s f.below_128 g.below_128 f.at_least_one g.at_least_one fronts in
    record {
      value = sym f.value ∙ (ap (number_of 128) h.digits ∙ g.value);
      octets = f.spelt ∙ (ap base_128_octets h.digits ∙ sym g.spelt);
      rest = h.rest;
    }

pub some_octets : (n : ℕ) (a : List ℕ) → IsBase128 n a → 1 ≤ length a
some_octets n a h = omega (arith, ap length h.spelt, length-base_128_octets h.digits, h.at_least_one)

-- a subidentifier that is read has octets
pub some_read : (octets : List ℕ) (n used : ℕ) → IsReadSubidentifier octets n used → 1 ≤ used
some_read octets n used h = omega (arith, some_octets n (take used octets) h.spelt, length-take-le used octets h.there)
