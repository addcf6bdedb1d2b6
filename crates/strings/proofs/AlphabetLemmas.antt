-- A BMPString by its first character and the others, and by its octets at even places.
use Rattle.std.proofs.Common.{◌≡◌, ℕ, ◌+◌, ◌*◌, ◌/◌, ◌%◌, ◌<◌, List, [], ◌∷◌, length, get_or, zero, suc, refl, ap, sym, subst, inl, inr, arith}
use Rattle.std.specs.Prelude.{All, Contains, Bool, IsTrue, ◌↔◌, ◌==◌}
use Rattle.std.specs.List.{list_any}
use Rattle.std.proofs.lemmas.List.Folds.{Any-from_list_any, list_any-from_Any}
use Rattle.std.proofs.lemmas.Bool.Decides.{nat_tests}
use Rattle.std.proofs.lemmas.Grind.{common_steps}
use Rattle.std.specs.Char.{IsAsciiAlphanumeric, IsNotAsciiAlphanumeric}
use Rattle.strings.specs.Alphabet.{IsBmp, IsBmpCharacter, BeginsCharacter, bmp_octets}

-- what holds of each element of a list, by the first and the others
all_first : (P : ℕ → Type 0) (x : ℕ) (xs : List ℕ) → All P (x ∷ xs) → P x
all_first P x xs all = all 0 0 (omega arith)

all_rest : (P : ℕ → Type 0) (x : ℕ) (xs : List ℕ) → All P (x ∷ xs) → All P xs
all_rest P x xs all = λ k d lt. all (suc k) d (omega arith)

all_both : (P : ℕ → Type 0) (x : ℕ) (xs : List ℕ) → P x → All P xs → All P (x ∷ xs)
all_both P x xs p all zero d lt = p
all_both P x xs p all (suc k) d lt = all k d (omega arith)

-- no octets are no characters
no_octets : IsBmp []
no_octets = record {
  characters = [];
  each = λ k d lt. absurd (omega arith);
  spelt = refl;
}

-- one octet is no character
not_one : (x : ℕ) (characters : List ℕ) → x ∷ [] ≡ bmp_octets characters → ⊥
not_one x [] e = cc
not_one x (c ∷ cs) e = cc

one_octet : (x : ℕ) → IsBmp (x ∷ []) → ⊥
one_octet x bmp = not_one x bmp.characters bmp.spelt

-- one character more
more : (high low : ℕ) (rest : List ℕ) → high < 256 → low < 256 → BeginsCharacter high → IsBmp rest → IsBmp (high ∷ low ∷ rest)
more high low rest h l is bmp =
    let first : IsBmpCharacter (high * 256 + low) =
    elim is [ inl below ↦ inl (omega arith) | inr above ↦ inr (omega arith, omega arith) ] in
    let e : (high * 256 + low) / 256 ≡ high = omega arith in
    let f : (high * 256 + low) % 256 ≡ low = omega arith in
    let s : rest ≡ bmp_octets bmp.characters = bmp.spelt in
    record {
      characters = (high * 256 + low) ∷ bmp.characters;
      each = all_both IsBmpCharacter (high * 256 + low) bmp.characters first bmp.each;
      spelt = cc;
    }

-- what the first character and the others are
less_of : (high low : ℕ) (rest characters : List ℕ) → All IsBmpCharacter characters → high ∷ low ∷ rest ≡ bmp_octets characters → BeginsCharacter high × IsBmp rest
less_of high low rest [] each e = absurd (cc)
less_of high low rest (c ∷ cs) each e =
    let h : high ≡ c / 256 = cc in
    let r : rest ≡ bmp_octets cs = cc in
    let first : IsBmpCharacter c = all_first IsBmpCharacter c cs each in
    let high_is : BeginsCharacter high = elim first [ inl below ↦ inl (omega arith) | inr above ↦ inr (omega arith) ] in
    (high_is, record { characters = cs; each = all_rest IsBmpCharacter c cs each; spelt = r })

less : (high low : ℕ) (rest : List ℕ) → IsBmp (high ∷ low ∷ rest) → BeginsCharacter high × IsBmp rest
less high low rest bmp = less_of high low rest bmp.characters bmp.each bmp.spelt

-- each octet at an even place begins a character
abbrev pub EachBegins : List ℕ → Type 0
EachBegins xs = (k : ℕ) → k * 2 < length xs → BeginsCharacter (get_or xs (k * 2) 0)

-- the even places of the others
later : (high low : ℕ) (rest : List ℕ) (k : ℕ) → get_or (high ∷ low ∷ rest) (suc k * 2) 0 ≡ get_or rest (k * 2) 0
later high low rest k = let e : suc k * 2 ≡ suc (suc (k * 2)) = omega arith in ap (λ i. get_or (high ∷ low ∷ rest) i 0) e

-- where that holds, and the count is even, the octets are those of characters
pub from_even : (xs : List ℕ) → ((i : ℕ) → get_or xs i 0 < 256) → length xs % 2 ≡ 0 → EachBegins xs → IsBmp xs
from_even [] fits even each = no_octets
from_even (x ∷ []) fits even each = absurd (omega arith)
from_even (high ∷ low ∷ rest) fits even each =
    more high low rest (fits 0) (fits 1) (each 0 (omega arith))
    (from_even rest (λ i. fits (suc (suc i))) (omega arith) (λ k lt. subst BeginsCharacter (later high low rest k) (each (suc k) (omega arith))))

-- the converse
each_later : (high low : ℕ) (rest : List ℕ) → BeginsCharacter high → EachBegins rest → EachBegins (high ∷ low ∷ rest)
each_later high low rest first each zero lt = first
each_later high low rest first each (suc k) lt = subst BeginsCharacter (sym (later high low rest k)) (each k (omega arith))

pub to_even : (xs : List ℕ) → IsBmp xs → (length xs % 2 ≡ 0) × EachBegins xs
to_even [] bmp = (refl, λ k lt. absurd (omega arith))
to_even (x ∷ []) bmp = absurd (one_octet x bmp)
to_even (high ∷ low ∷ rest) bmp =
    let parts : BeginsCharacter high × IsBmp rest = less high low rest bmp in
    let all : (length rest % 2 ≡ 0) × EachBegins rest = to_even rest parts.1 in
    (omega (arith, all.0), each_later high low rest parts.0 all.1)

-- what is outside three ranges is in none of them
pub no_letter : (x : ℕ) → IsNotAsciiAlphanumeric x → IsAsciiAlphanumeric x → ⊥
no_letter x not is = grind arith

-- `contains` of a slice returns whether one of its elements is x
pub contains : (xs : List ℕ) (x : ℕ) (answer : Bool) → answer ≡ list_any (λ y. y == x) xs → IsTrue answer ↔ Contains xs x
contains xs x answer e = grind (arith, common_steps, nat_tests, Any-from_list_any (λ y. y == x) xs, list_any-from_Any (λ y. y == x) xs)
