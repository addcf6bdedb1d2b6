-- Binary and hexadecimal strings: the digits in front tell where one ends.
use Rattle.std.proofs.Common.{◌≡◌, ℕ, zero, suc, ◌+◌, ◌-◌, ◌<◌, ◌≤◌, List, [], ◌∷◌, ◌++◌, length, take, drop, get_or, refl, sym, ◌∙◌, ap, subst, arith, Bool, true, false, ◌&&◌, append_assoc, ◌⊎◌, inl, inr}
use Rattle.std.specs.Prelude.{All, codes}
use Rattle.std.specs.List.{prefix_len, list_all}
use Rattle.std.proofs.lemmas.Bool.{false≢true}
use Rattle.std.proofs.lemmas.Bool.Decides.{nat_tests, Decides-eqb}
use Rattle.std.proofs.lemmas.List.{take_rest, length-drop, length-take-le, take_at, drop_at, get_or_append_left, get_or_at, length-append, take-append-drop, get_or-take}
use Rattle.std.proofs.lemmas.List.Elements.{All-from_get_or, All-get_or, All-weaker, All-nil, All-cons, All-head, All-tail}
use Rattle.std.proofs.lemmas.List.Sums.{prefix_len-le-length, prefix_len_passes, prefix_len_is}
use Rattle.std.proofs.lemmas.Slice.Eq.{starts_is}
use Rattle.std.proofs.Math.Seq.{take-add}
use Rattle.lexis.specs.declared.token.Kind.{Kind}
use Rattle.lexis.specs.declared.token.Kind.TheVariants.{Reserved, TypeName, Identifier, Number, Binary, Hex, Chars, Symbol}
use Rattle.lexis.specs.Octets.{begins}
use Rattle.lexis.specs.Spelling.{Spells, IsDigitString, is_bit, is_hex_digit}
use Rattle.lexis.specs.Tokens.{IsToken, IsWithinLimit}
use Rattle.lexis.specs.Fronts.{StandsApart, HasNoToken}
use Rattle.lexis.proofs.KindLemmas.{class, class_of, class_front, class_apostrophe, spells_some}

-- what begins with some octets is these and the rest
pub begins_is : (front x : List ℕ) → begins front x ≡ true → x ≡ front ++ drop (length front) x
begins_is front x h = (starts_is Decides-eqb x front (begins front x) refl).0 h

pub begins_with : (front x rest : List ℕ) → x ≡ front ++ rest → begins front x ≡ true
begins_with front x rest e = (starts_is Decides-eqb x front (begins front x) refl).1 rest e

pub begins_take : (front x : List ℕ) → begins front x ≡ true → take (length front) x ≡ front
begins_take front x h = ap (take (length front)) (begins_is front x h) ∙ take_at front (drop (length front) x) (length front) refl

-- how many hexadecimal digits stand in front
abbrev run : List ℕ → ℕ
run y = prefix_len is_hex_digit y

-- behind its first apostrophe a string has the digits in front, an apostrophe and its letter
record IsInside (p : ℕ → Bool) (letter : ℕ) (y : List ℕ) (m : ℕ) : Type 0 where
  size : m ≡ run y + 2
  each : All (λ digit. p digit ≡ true) (take (run y) y)
  ends : begins (39 ∷ letter ∷ []) (drop (run y) y) ≡ true

spelt-inside : (p : ℕ → Bool) (letter : ℕ) (y : List ℕ) → All (λ digit. p digit ≡ true) (take (run y) y) → begins (39 ∷ letter ∷ []) (drop (run y) y) ≡ true → IsDigitString p (letter ∷ []) (39 ∷ take (run y + 2) y)
spelt-inside p letter y each ends = record {
  digits = take (run y) y;
  each = each;
  spelt = ap (λ (v : List ℕ). 39 ∷ v) (take-add (run y) 2 y ∙ ap (λ (v : List ℕ). take (run y) y ++ v) (begins_take (39 ∷ letter ∷ []) (drop (run y) y) ends) ∙ sym (append_assoc (take (run y) y) (39 ∷ []) (letter ∷ [])));
}

both : (p q : Bool) → p && q ≡ true → (p ≡ true) × (q ≡ true)
both true q h = (refl, h)
both false q h = absurd (false≢true h)

run-of : (d rest : List ℕ) → All (λ digit. is_hex_digit digit ≡ true) d → run (d ++ 39 ∷ rest) ≡ length d
run-of d rest each = prefix_len_is is_hex_digit (d ++ 39 ∷ rest) (length d) 0 (omega (arith, length-append d (39 ∷ rest)))
    (λ i h. subst (λ o. is_hex_digit o ≡ true) (sym (get_or_append_left d (39 ∷ rest) 0 i h)) (All-get_or (λ digit. is_hex_digit digit ≡ true) d i 0 h each))
    (λ l. ap is_hex_digit (get_or_at d 39 rest 0 (length d) refl))

inside : (p : ℕ → Bool) (letter : ℕ) (y : List ℕ) (m : ℕ) → ((o : ℕ) → p o ≡ true → is_hex_digit o ≡ true) → m ≤ length y → IsDigitString p (letter ∷ []) (39 ∷ take m y) → IsInside p letter y m
inside p letter y m hex l s =
    let d = s.digits in
    let whole = s.spelt in
    let part : take m y ≡ d ++ 39 ∷ [] ++ letter ∷ [] = cc in
    let front : take m y ≡ d ++ 39 ∷ letter ∷ [] = part ∙ append_assoc d (39 ∷ []) (letter ∷ []) in
    let all : y ≡ d ++ 39 ∷ letter ∷ drop m y = sym (take-append-drop m y) ∙ ap (λ (v : List ℕ). v ++ drop m y) front ∙ append_assoc d (39 ∷ letter ∷ []) (drop m y) in
    let digits = run-of d (letter ∷ drop m y) (All-weaker (λ digit. p digit ≡ true) (λ digit. is_hex_digit digit ≡ true) hex d s.each) in
    let count : run y ≡ length d = ap run all ∙ digits in
    let size = length-take-le m y l in
    record {
      size = omega (arith, ap length front, length-append d (39 ∷ letter ∷ []));
      each = subst (λ (v : List ℕ). All (λ digit. p digit ≡ true) v) (sym (ap (λ (k : ℕ). take k y) count ∙ ap (take (length d)) all ∙ take_at d (39 ∷ letter ∷ drop m y) (length d) refl)) s.each;
      ends = begins_with (39 ∷ letter ∷ []) (drop (run y) y) (drop m y) (ap (λ (k : ℕ). drop k y) count ∙ ap (drop (length d)) all ∙ drop_at d (39 ∷ letter ∷ drop m y) (length d) refl);
    }

-- The tokens.
hex-is-hex : (o : ℕ) → is_hex_digit o ≡ true → is_hex_digit o ≡ true
hex-is-hex o h = h

bit-is-hex : (o : ℕ) → is_bit o ≡ true → is_hex_digit o ≡ true
bit-is-hex o h = grind (arith, nat_tests)

-- a token behind an apostrophe is a string of digits
abbrev Strings : Kind → List ℕ → ℕ → Type 0
Strings k y m = (IsInside is_hex_digit 72 y m × (k ≡ Hex)) ⊎ (IsInside is_bit 66 y m × (k ≡ Binary))

strings-only : (k : Kind) (y : List ℕ) (m : ℕ) → class_of k ≡ 3 → m ≤ length y → Spells k (39 ∷ take m y) → Strings k y m
strings-only Hex y m h l s = inl (inside is_hex_digit 72 y m hex-is-hex l s, refl)
strings-only Binary y m h l s = inr (inside is_bit 66 y m bit-is-hex l s, refl)
strings-only Chars y m h l s = absurd (omega arith)
strings-only Reserved y m h l s = absurd (omega arith)
strings-only TypeName y m h l s = absurd (omega arith)
strings-only Identifier y m h l s = absurd (omega arith)
strings-only (Number n) y m h l s = absurd (omega arith)
strings-only Symbol y m h l s = absurd (omega arith)

strings-here : (b : ℕ) (y : List ℕ) (j : Kind) (m : ℕ) → b ≡ 39 → m ≤ length y → Spells j (take (suc m) (b ∷ y)) → Strings j y m
strings-here b y j m e l s =
    let front = class_front (b ∷ y) j (suc m) (omega arith) s in
    let marks : class b ≡ 3 = ap class e ∙ class_apostrophe in
    strings-only j y m (sym front ∙ marks) l (subst (λ (c : ℕ). Spells j (c ∷ take m y)) e s)

strings-size : (k : Kind) (y : List ℕ) (m : ℕ) → Strings k y m → m ≡ run y + 2
strings-size k y m (inl (s, e)) = s.size
strings-size k y m (inr (s, e)) = s.size

strings-longest : (b : ℕ) (y : List ℕ) → b ≡ 39 → (j : Kind) (m : ℕ) → m ≤ length (b ∷ y) → Spells j (take m (b ∷ y)) → m ≤ run y + 3
strings-longest b y e j zero l s = omega arith
strings-longest b y e j (suc m) l s = let size = strings-size j y m (strings-here b y j m e (omega arith) s) in omega arith

room : (letter : ℕ) (y : List ℕ) → begins (39 ∷ letter ∷ []) (drop (run y) y) ≡ true → run y + 2 ≤ length y
room letter y h = let e = ap length (begins_is (39 ∷ letter ∷ []) (drop (run y) y) h) in omega (arith, length-drop (run y) y, length-append (39 ∷ letter ∷ []) (drop 2 (drop (run y) y)))

digits-token : (b : ℕ) (y : List ℕ) (k : Kind) (letter : ℕ) → StandsApart (b ∷ y) → b ≡ 39 → IsWithinLimit k → begins (39 ∷ letter ∷ []) (drop (run y) y) ≡ true → Spells k (39 ∷ take (run y + 2) y) → IsToken (b ∷ y) k (run y + 3)
digits-token b y k letter apart e small h s =
    let size : suc (run y + 2) ≡ run y + 3 = omega arith in
    record {
      within = omega (arith, room letter y h);
      spelt = subst (λ (n : ℕ). Spells k (take n (b ∷ y))) size (subst (λ (d : ℕ). Spells k (d ∷ take (run y + 2) y)) (sym e) s);
      longest = strings-longest b y e;
      small = small;
      no_digit_behind_zero = λ z. absurd (omega arith);
      no_comment = apart;
    }

all-hex : (y : List ℕ) → All (λ digit. is_hex_digit digit ≡ true) (take (run y) y)
all-hex y =
    let size = length-take-le (run y) y (prefix_len-le-length is_hex_digit y) in
    All-from_get_or (λ digit. is_hex_digit digit ≡ true) (take (run y) y) 0 (λ i h. let near : i < run y = omega arith in subst (λ o. is_hex_digit o ≡ true) (sym (get_or-take (run y) y i 0 near)) (prefix_len_passes is_hex_digit y i 0 near))

all-bits : (d : List ℕ) → list_all is_bit d ≡ true → All (λ digit. is_bit digit ≡ true) d
all-bits [] h = All-nil (λ digit. is_bit digit ≡ true)
all-bits (b ∷ d) h = let parts = both (is_bit b) (list_all is_bit d) h in All-cons (λ digit. is_bit digit ≡ true) b d parts.0 (all-bits d parts.1)

bits-all : (d : List ℕ) → All (λ digit. is_bit digit ≡ true) d → list_all is_bit d ≡ true
bits-all [] h = refl
bits-all (b ∷ d) h = rw (All-head (λ digit. is_bit digit ≡ true) b d h) (bits-all d (All-tail (λ digit. is_bit digit ≡ true) b d h))

hex-here : (b : ℕ) (y : List ℕ) → StandsApart (b ∷ y) → b ≡ 39 → begins (codes "'H") (drop (run y) y) ≡ true → IsToken (b ∷ y) Hex (run y + 3)
hex-here b y apart e h = digits-token b y Hex 72 apart e tt h (spelt-inside is_hex_digit 72 y (all-hex y) h)

binary-here : (b : ℕ) (y : List ℕ) → StandsApart (b ∷ y) → b ≡ 39 → (begins (codes "'B") (drop (run y) y) && list_all is_bit (take (run y) y)) ≡ true → IsToken (b ∷ y) Binary (run y + 3)
binary-here b y apart e h =
    let parts = both (begins (codes "'B") (drop (run y) y)) (list_all is_bit (take (run y) y)) h in
    digits-token b y Binary 66 apart e tt parts.0 (spelt-inside is_bit 66 y (all-bits (take (run y) y) parts.1) parts.0)

none-here : (b : ℕ) (y : List ℕ) → b ≡ 39 → begins (codes "'H") (drop (run y) y) ≡ false → (begins (codes "'B") (drop (run y) y) && list_all is_bit (take (run y) y)) ≡ false → HasNoToken (b ∷ y)
none-here b y e h g k zero t = let some = spells_some k [] t.spelt in absurd (omega arith)
none-here b y e h g k (suc m) t = by-kind (strings-here b y k m e (omega (arith, t.within)) t.spelt)
  where
    by-kind : Strings k y m → ⊥
    by-kind (inl (s, f)) = false≢true (sym h ∙ s.ends)
    by-kind (inr (s, f)) = false≢true (sym g ∙ rw s.ends (bits-all (take (run y) y) s.each))

-- what is asked of the octets behind the first, in the slice that they are
pub record IsBehind (x y : List ℕ) (n : ℕ) : Type 0 where
  pub same : y ≡ take (length x - 1) (drop 1 x)
  pub count : n ≡ run y
  pub first : get_or x 0 0 ≡ 39

pub behind_first : (x y : List ℕ) (n : ℕ) → y ≡ take (length x - 1) (drop 1 x) → n ≡ run y → get_or x 0 0 ≡ 39 → IsBehind x y n
behind_first x y n e f g = record { same = e; count = f; first = g }

pub hex_token : (x y : List ℕ) (n : ℕ) → IsBehind x y n → StandsApart x → begins (codes "'H") (drop n y) ≡ true → IsToken x Hex (n + 3)
hex_token [] y n b apart h = let e = b.first in absurd (omega arith)
hex_token (c ∷ x) y n b apart h =
    let rest : y ≡ x = b.same ∙ take_rest (c ∷ x) 1 in
    let same : n ≡ run x = b.count ∙ ap run rest in
    subst (λ (i : ℕ). IsToken (c ∷ x) Hex (i + 3)) (sym same) (hex-here c x apart b.first (subst (λ (z : List ℕ). begins (codes "'H") (drop (run x) z) ≡ true) rest (subst (λ (i : ℕ). begins (codes "'H") (drop i y) ≡ true) same h)))

pub binary_token : (x y : List ℕ) (n : ℕ) → IsBehind x y n → StandsApart x → (begins (codes "'B") (drop n y) && list_all is_bit (take n y)) ≡ true → IsToken x Binary (n + 3)
binary_token [] y n b apart h = let e = b.first in absurd (omega arith)
binary_token (c ∷ x) y n b apart h =
    let rest : y ≡ x = b.same ∙ take_rest (c ∷ x) 1 in
    let same : n ≡ run x = b.count ∙ ap run rest in
    subst (λ (i : ℕ). IsToken (c ∷ x) Binary (i + 3)) (sym same) (binary-here c x apart b.first (subst (λ (z : List ℕ). (begins (codes "'B") (drop (run x) z) && list_all is_bit (take (run x) z)) ≡ true) rest (subst (λ (i : ℕ). (begins (codes "'B") (drop i y) && list_all is_bit (take i y)) ≡ true) same h)))

pub no_digit_string : (x y : List ℕ) (n : ℕ) → IsBehind x y n → begins (codes "'H") (drop n y) ≡ false → (begins (codes "'B") (drop n y) && list_all is_bit (take n y)) ≡ false → HasNoToken x
no_digit_string [] y n b h g = let e = b.first in absurd (omega arith)
no_digit_string (c ∷ x) y n b h g =
    let rest : y ≡ x = b.same ∙ take_rest (c ∷ x) 1 in
    let same : n ≡ run x = b.count ∙ ap run rest in
    none-here c x b.first
    (subst (λ (z : List ℕ). begins (codes "'H") (drop (run x) z) ≡ false) rest (subst (λ (i : ℕ). begins (codes "'H") (drop i y) ≡ false) same h))
    (subst (λ (z : List ℕ). (begins (codes "'B") (drop (run x) z) && list_all is_bit (take (run x) z)) ≡ false) rest (subst (λ (i : ℕ). (begins (codes "'B") (drop i y) && list_all is_bit (take i y)) ≡ false) same g))
