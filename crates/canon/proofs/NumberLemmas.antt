-- Lemmas on the contents octets of numbers: how many there are, and how they are written as words of eight octets.
use Rattle.std.proofs.Common.{◌≡◌, ◌∙◌, inl, inr, ℕ, ℤ, pos, negsuc, zero, suc, ◌+◌, ◌-◌, ◌*◌, ◌/◌, ◌%◌, ◌^◌, ◌<◌, ◌≤◌, Bool, false, true, List, [], ◌∷◌, ◌++◌, length, get_or, take, drop, All, FitsSigned, Ok, Err, OnOk, OnErr, refl, sym, ap, arith, length-append, append_assoc}
use Rattle.std.specs.Int.{w64, w128, to_be_bytes, from_be_bytes, cast_unsigned}
use Rattle.std.proofs.Math.Nat.{one-le-pow, mul-le-mul_right, mul_assoc, mul_comm, add-mul, pow-suc, pow-le-pow_right}
use Rattle.std.proofs.Math.Seq.{take-append-add}
use Rattle.std.proofs.lemmas.Nat.{pow-add, be_bytes_8, mod-mul-add, div-mul-add}
use Rattle.std.proofs.lemmas.List.{take_at, take-take, take-append-drop, length-take-le, length-drop, length-replicate, get_or_past}
use Rattle.std.proofs.lemmas.List.Elements.{All-append, All-replicate, All-take, All-drop}
use Rattle.std.proofs.lemmas.Bool.{cases_lt}
use Rattle.std.specs.declared.result.Result.{Result}
use Rattle.octets.specs.declared.no_memory.NoMemory.{NoMemory}
use Rattle.octets.specs.declared.tag.Tag.{Tag}
use Rattle.octets.specs.Digits.{number_of}
use Rattle.octets.specs.Front.{Appends}
use Rattle.octets.specs.Rule.{cer}
use Rattle.octets.proofs.RuleLemmas.{cer_is_canonical}
use Rattle.octets.proofs.DigitLemmas.{number_of-append, number_of-below, number_of-zeros, zeros}
use Rattle.primitives.specs.Integer.{IsInteger, number_at, last_octet_at}
use Rattle.primitives.proofs.IntegerLemmas.{IsComplement-from, IsInteger-last, IsInteger-more, one_integer_encoding}
use Rattle.types.specs.Shape.{SimpleType, SimpleValue}
use Rattle.types.proofs.ContentsExistenceLemmas.{simple_contents}
use Rattle.canon.specs.Leaf.{IsNumberEncoding, IsPrimitiveHead}
use Rattle.canon.specs.Part.{Keeps}
use Rattle.canon.specs.Writes.{Writes}
use Rattle.canon.proofs.KeptLemmas.{keeps_chain}
use Rattle.canon.proofs.PrimitiveLemmas.{number_made}

-- places of octets, by their bits
pub eight_bits : (n : ℕ) → 2 ^ (8 * n) ≡ 256 ^ n
eight_bits zero = refl
eight_bits (suc n) =
    let more : 8 * suc n ≡ 8 * n + 8 = omega arith in
    let octet : 2 ^ 8 ≡ 256 = refl in
    ap (λ k. 2 ^ k) more ∙ pow-add 2 (8 * n) 8 ∙ ap (λ x. x * 2 ^ 8) (eight_bits n) ∙ ap (λ x. 256 ^ n * x) octet ∙ sym (pow-suc 256 n)

-- what stands so near 0 or -1 has few contents octets
near_octets : (negative : Bool) (more distance : ℕ) → distance < 128 * 256 ^ more → (contents : List ℕ) × IsInteger (number_at negative distance) contents × (length contents ≤ more + 1)
near_octets negative zero distance near = let once : 256 ^ 0 ≡ 1 = refl in (last_octet_at negative distance ∷ [], IsInteger-last negative distance (omega (arith, near, once)), omega arith)
near_octets negative (suc more) distance near =
    let front = near_octets negative more (distance / 256) (omega (arith, near, pow-suc 256 more)) in
    let last : List ℕ = last_octet_at negative distance ∷ [] in
    elim (cases_lt distance 128) [
      | inl small ↦ (last, IsInteger-last negative distance small, omega arith)
      | inr great ↦ (front.0 ++ last, IsInteger-more negative distance front.0 great front.1, omega (arith, front.2, length-append front.0 last))
    ]

-- a number has an octet for each eight of its bits, of which the first is the sign's
pub size_by_bits : (negative : Bool) (distance bits : ℕ) (contents : List ℕ) → distance < 2 ^ bits → 2 ^ bits ≤ 2 * distance + 1 → IsInteger (number_at negative distance) contents → length contents ≡ bits / 8 + 1
size_by_bits negative distance bits contents fits some h =
    let more = bits / 8 in
    let most : 2 ^ bits ≤ 2 ^ (7 + 8 * more) = pow-le-pow_right {n = 2} (omega arith) {i = bits} {j = 7 + 8 * more} (omega arith) in
    let seven : 2 ^ 7 ≡ 128 = refl in
    let near : 2 ^ (7 + 8 * more) ≡ 128 * 256 ^ more = pow-add 2 7 (8 * more) ∙ ap (λ x. 2 ^ 7 * x) (eight_bits more) ∙ ap (λ x. x * 256 ^ more) seven in
    let made = near_octets negative more distance (omega (arith, fits, most, near)) in
    let above : length contents ≤ more + 1 = omega (arith, made.2, ap length (one_integer_encoding (number_at negative distance) contents made.0 h made.1)) in
    elim (cases_lt bits (8 * length contents)) [
      | inl below ↦ omega (arith, below, above)
      | inr many ↦
          let least : 2 ^ (8 * length contents) ≤ 2 ^ bits = pow-le-pow_right {n = 2} (omega arith) {i = 8 * length contents} {j = bits} many in
          let there : length contents ≡ suc (length contents - 1) = omega (arith, h.at_least_one) in
          let even : 256 ^ length contents ≡ 256 ^ (length contents - 1) * 256 = ap (λ n. 256 ^ n) there ∙ pow-suc 256 (length contents - 1) in
          absurd (omega (arith, least, eight_bits (length contents), even, some, (IsComplement-from negative distance contents h).half))
    ]

pub few_bits : (most distance bits : ℕ) → distance < 2 ^ most → 2 ^ bits ≤ 2 * distance + 1 → bits ≤ most
few_bits most distance bits fits some =
    elim (cases_lt bits (suc most)) [
      | inl few ↦ omega (arith, few)
      | inr many ↦
          let least : 2 ^ suc most ≤ 2 ^ bits = pow-le-pow_right {n = 2} (omega arith) {i = suc most} {j = bits} many in
          absurd (omega (arith, least, pow-suc 2 most, some, fits))
    ]

-- so many octets, and those that are missing of sixteen
sixteen_octets : (count : ℕ) → count ≤ 16 → 256 ^ count * 256 ^ (16 - count) ≡ 2 ^ 128
sixteen_octets count few =
    let whole : count + (16 - count) ≡ 16 = omega (arith, few) in
    let power : 256 ^ 16 ≡ 2 ^ 128 = refl in
    sym (pow-add 256 count (16 - count)) ∙ ap (λ n. 256 ^ n) whole ∙ power

-- a number of so many octets keeps them all where they are moved to the front
moved : (value octets rest : ℕ) → value < octets → 1 ≤ rest → octets * rest ≡ 2 ^ 128 → value * rest < 2 ^ 128
moved value octets rest fits some whole =
    let more : (value + 1) * rest ≤ octets * rest = mul-le-mul_right rest (omega (arith, fits)) in
    omega (arith, more, whole, some, add-mul value 1 rest)

moved_above : (value octets rest : ℕ) → value < octets → 1 ≤ rest → octets * rest ≡ 2 ^ 128 → (value * rest) % 2 ^ 128 ≡ value * rest
moved_above value octets rest fits some whole = let fit = moved value octets rest fits some whole in omega (arith, fit)

-- what stands above the octets of a number below 0 leaves at the front
moved_below : (value n octets rest : ℕ) → value + n + 1 ≡ octets → 1 ≤ rest → octets * rest ≡ 2 ^ 128 → ((2 ^ 128 - suc n) * rest) % 2 ^ 128 ≡ value * rest
moved_below value n octets zero sum some whole = absurd (omega (arith, some))
moved_below value n octets (suc more) sum some whole =
    let rest = suc more in
    let spread : octets * suc more ≡ octets * more + octets = omega arith in
    let above : 2 ^ 128 - suc n ≡ octets * more + value = omega (arith, sum, whole, spread) in
    let turned : octets * more * rest ≡ more * 2 ^ 128 = ap (λ x. x * rest) (mul_comm octets more) ∙ mul_assoc more octets rest ∙ ap (λ x. more * x) whole in
    let parts : (2 ^ 128 - suc n) * rest ≡ more * 2 ^ 128 + value * rest = ap (λ x. x * rest) above ∙ add-mul (octets * more) value rest ∙ ap (λ x. x + value * rest) turned in
    ap (λ x. x % 2 ^ 128) parts ∙ mod-mul-add more (2 ^ 128) (value * rest) (moved value octets rest (omega (arith, sum)) some whole)

moved_bits : (number : ℤ) (rest : ℕ) (contents : List ℕ) → IsInteger number contents → FitsSigned w128 number → 1 ≤ rest → 256 ^ length contents * rest ≡ 2 ^ 128 → (cast_unsigned w128 number * rest) % 2 ^ 128 ≡ number_of 256 contents * rest
moved_bits (pos n) rest contents h fits some whole =
    let value : number_of 256 contents ≡ n = (IsComplement-from false n contents h).value in
    let below = number_of-below 256 contents h.below_256 in
    ap (λ x. (x * rest) % 2 ^ 128) (sym value) ∙ moved_above (number_of 256 contents) (256 ^ length contents) rest below some whole
moved_bits (negsuc n) rest contents h fits some whole =
    let value : number_of 256 contents + n + 1 ≡ 256 ^ length contents = (IsComplement-from true n contents h).value in
    moved_below (number_of 256 contents) n (256 ^ length contents) rest value some whole

-- the bits of a number, of which the contents octets have moved to the front of sixteen
pub contents_first : (number : ℤ) (count : ℕ) (contents : List ℕ) → FitsSigned w128 number → count ≤ 16 → IsInteger number contents → length contents ≡ count → (cast_unsigned w128 number * 2 ^ (8 * (16 - count))) % 2 ^ 128 ≡ number_of 256 contents * 256 ^ (16 - count)
contents_first number count contents fits few h size =
    let rest = 256 ^ (16 - count) in
    let bits : 2 ^ (8 * (16 - count)) ≡ rest = eight_bits (16 - count) in
    let whole : 256 ^ length contents * rest ≡ 2 ^ 128 = ap (λ n. 256 ^ n * rest) size ∙ sixteen_octets count few in
    ap (λ x. (cast_unsigned w128 number * x) % 2 ^ 128) bits ∙ moved_bits number rest contents h fits (one-le-pow (16 - count) 256 (omega arith)) whole

-- eight octets are those of the word that they spell
from_eight : (octets : List ℕ) → length octets ≡ 8 → number_of 256 octets ≡ from_be_bytes w64 octets
from_eight (a ∷ b ∷ c ∷ d ∷ e ∷ f ∷ g ∷ h ∷ []) size = omega arith
from_eight octets size = absurd (omega (arith, size))

octet_at : (octets : List ℕ) → All (λ octet. octet < 256) octets → (i : ℕ) → get_or octets i 0 < 256
octet_at octets below i =
    elim (cases_lt i (length octets)) [
      | inl there ↦ below i 0 there
      | inr past ↦ let none : get_or octets i 0 ≡ 0 = get_or_past octets i 0 past in omega (arith, none)
    ]

pub word_of : (octets : List ℕ) (word : ℕ) → length octets ≡ 8 → All (λ octet. octet < 256) octets → word ≡ number_of 256 octets → to_be_bytes w64 word ≡ octets
word_of octets word size below is = be_bytes_8 octets word size (octet_at octets below) (is ∙ from_eight octets size)

-- sixteen octets that begin with these, and the two words that they are
pub record AreWords (octets : List ℕ) (sixteen : ℕ) : Type 0 where
  pub all : List ℕ
  pub size : length all ≡ 16
  pub front : take (length octets) all ≡ octets
  pub first : to_be_bytes w64 (sixteen / 2 ^ 64) ≡ take 8 all
  pub second : to_be_bytes w64 (sixteen % 2 ^ 64) ≡ drop 8 all

pub words_of : (octets : List ℕ) (count sixteen : ℕ) → count ≤ 16 → All (λ octet. octet < 256) octets → length octets ≡ count → sixteen ≡ number_of 256 octets * 256 ^ (16 - count) → AreWords octets sixteen
words_of octets count sixteen few below size is =
    let none : List ℕ = zeros (16 - count) in
    let all = octets ++ none in
    let missing : length none ≡ 16 - count = length-replicate (16 - count) 0 in
    let long : length all ≡ 16 = omega (arith, length-append octets none, missing, size, few) in
    let value : number_of 256 all ≡ number_of 256 octets * 256 ^ (16 - count) = number_of-append 256 octets none ∙ omega (arith, ap (λ n. number_of 256 octets * 256 ^ n) missing, number_of-zeros 256 (16 - count)) in
    let each = All-append (λ octet. octet < 256) octets none below (All-replicate (λ octet. octet < 256) (16 - count) 0 (omega arith)) in
    let one : List ℕ = take 8 all in
    let two : List ℕ = drop 8 all in
    let one_long : length one ≡ 8 = length-take-le 8 all (omega (arith, long)) in
    let two_long : length two ≡ 8 = omega (arith, length-drop 8 all, long) in
    let one_each = All-take (λ octet. octet < 256) 8 all each in
    let two_each = All-drop (λ octet. octet < 256) 8 all each in
    let power : 256 ^ 8 ≡ 2 ^ 64 = refl in
    let low : number_of 256 two < 2 ^ 64 = omega (arith, number_of-below 256 two two_each, ap (λ n. 256 ^ n) two_long, power) in
    let parts : number_of 256 (one ++ two) ≡ number_of 256 one * 2 ^ 64 + number_of 256 two = number_of-append 256 one two ∙ ap (λ n. number_of 256 one * 256 ^ n + number_of 256 two) two_long in
    let whole : sixteen ≡ number_of 256 one * 2 ^ 64 + number_of 256 two = is ∙ sym value ∙ ap (number_of 256) (sym (take-append-drop 8 all)) ∙ parts in
    record {
      all = all;
      size = long;
      front = take_at octets none (length octets) refl;
      first = word_of one (sixteen / 2 ^ 64) one_long one_each (ap (λ n. n / 2 ^ 64) whole ∙ div-mul-add (number_of 256 one) (2 ^ 64) (number_of 256 two) low);
      second = word_of two (sixteen % 2 ^ 64) two_long two_each (ap (λ n. n % 2 ^ 64) whole ∙ mod-mul-add (number_of 256 one) (2 ^ 64) (number_of 256 two) low);
    }

-- what is left of both words, and of the first alone
pub both_words : (octets old new : List ℕ) (count sixteen end : ℕ) → length octets ≡ count → end ≡ length old + count → AreWords octets sixteen → new ≡ (old ++ to_be_bytes w64 (sixteen / 2 ^ 64)) ++ to_be_bytes w64 (sixteen % 2 ^ 64) → take end new ≡ old ++ octets
both_words octets old new count sixteen end size at h is =
    let one : List ℕ = to_be_bytes w64 (sixteen / 2 ^ 64) in
    let two : List ℕ = to_be_bytes w64 (sixteen % 2 ^ 64) in
    let whole : one ++ two ≡ h.all = ap (λ s. s ++ two) h.first ∙ ap (λ s. take 8 h.all ++ s) h.second ∙ take-append-drop 8 h.all in
    let laid : new ≡ old ++ h.all = is ∙ append_assoc old one two ∙ ap (λ s. old ++ s) whole in
    let kept : end ≡ length old + length octets = omega (arith, size, at) in
    ap (λ s. take end s) laid ∙ ap (λ n. take n (old ++ h.all)) kept ∙ take-append-add old h.all (length octets) ∙ ap (λ s. old ++ s) h.front

pub first_word : (octets old new : List ℕ) (count sixteen end : ℕ) → count ≤ 8 → length octets ≡ count → end ≡ length old + count → AreWords octets sixteen → new ≡ old ++ to_be_bytes w64 (sixteen / 2 ^ 64) → take end new ≡ old ++ octets
first_word octets old new count sixteen end few size at h is =
    let laid : new ≡ old ++ take 8 h.all = is ∙ ap (λ s. old ++ s) h.first in
    let kept : end ≡ length old + length octets = omega (arith, size, at) in
    ap (λ s. take end s) laid ∙ ap (λ n. take n (old ++ take 8 h.all)) kept ∙ take-append-add old (take 8 h.all) (length octets)
    ∙ ap (λ s. old ++ s) (take-take (length octets) 8 h.all (omega (arith, size, few)) ∙ h.front)

-- contents octets behind their head
pub number_put : (r : Result (Unit {0}) NoMemory) (tag : Tag) (number : ℤ) (count sixteen : ℕ) (old mid new : List ℕ) → FitsSigned w128 number → count ≤ 16 → sixteen ≡ (cast_unsigned w128 number * 2 ^ (8 * (16 - count))) % 2 ^ 128
    → ((contents : List ℕ) → IsInteger number contents → length contents ≡ count) → Appends (IsPrimitiveHead tag count) old mid
    → OnOk r ((octets : List ℕ) → All (λ octet. octet < 256) octets → length octets ≡ count → sixteen ≡ number_of 256 octets * 256 ^ (16 - count) → new ≡ mid ++ octets) → OnErr r (Keeps mid new) → Writes (IsNumberEncoding tag number) r old new
number_put (Ok done) tag number count sixteen old mid new fits few moved sized head put left =
    let made = simple_contents cer SimpleType.integer (SimpleValue.integer number) cer_is_canonical fits in
    let contents : List ℕ = made.0 in
    let spelt : IsInteger number contents = made.1 in
    let size = sized contents spelt in
    let is : new ≡ mid ++ contents = put contents spelt.below_256 size (moved ∙ contents_first number count contents fits few spelt size) in
    record {
      appended = (head.0 ++ contents, is ∙ ap (λ s. s ++ contents) head.1 ∙ append_assoc old head.0 contents, number_made tag number count head.0 contents head.2 size spelt);
      kept = tt;
    }
number_put (Err e) tag number count sixteen old mid new fits few moved sized head put left = record { appended = tt; kept = keeps_chain old mid new (head.0, head.1, tt) left }
