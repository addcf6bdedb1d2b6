-- Lemmas on octets that are written as one word of eight, and on encodings of numbers so written.
use Rattle.std.proofs.Common.{◌≡◌, ◌∙◌, ℕ, ℤ, ◌+◌, ◌-◌, ◌*◌, ◌/◌, ◌%◌, ◌^◌, ◌<◌, ◌≤◌, List, [], ◌∷◌, ◌++◌, length, take, FitsSigned, Ok, Err, OnOk, OnErr, refl, sym, ap, arith, length-append, append-nil}
use Rattle.std.specs.Int.{w64, w128, to_be_bytes, cast_unsigned}
use Rattle.std.proofs.Math.Seq.{take-append-add}
use Rattle.std.proofs.lemmas.Nat.{pow-add, div-mul-add, mul-mod_first}
use Rattle.std.proofs.Math.Nat.{one-le-pow, mul-le-mul_right, add-mul}
use Rattle.std.proofs.lemmas.List.{length-replicate, take_at}
use Rattle.std.proofs.lemmas.List.Elements.{All-append, All-replicate, All-cons, All-nil}
use Rattle.std.specs.declared.result.Result.{Result}
use Rattle.octets.specs.declared.no_memory.NoMemory.{NoMemory}
use Rattle.octets.specs.declared.tag.Tag.{Tag}
use Rattle.octets.specs.Digits.{number_of}
use Rattle.octets.specs.Rule.{cer}
use Rattle.octets.proofs.RuleLemmas.{cer_is_canonical}
use Rattle.octets.proofs.DigitLemmas.{number_of-append, number_of-below, number_of-zeros, zeros}
use Rattle.primitives.specs.Integer.{IsInteger}
use Rattle.types.specs.Shape.{SimpleType, SimpleValue}
use Rattle.types.proofs.ContentsExistenceLemmas.{simple_contents}
use Rattle.canon.specs.declared.few.Few.{Few}
use Rattle.canon.specs.Few.{AreFew, Spells}
use Rattle.canon.specs.Leaf.{IsNumberEncoding, IsPrimitiveHead}
use Rattle.canon.specs.Writes.{Writes}
use Rattle.canon.proofs.NumberLemmas.{contents_first, eight_bits, word_of}
use Rattle.canon.proofs.PrimitiveLemmas.{number_made}

-- the octets in front of a word
pub few_front : (few : Few) (octets : List ℕ) → few.count ≤ 8 → AreFew few octets → take few.count (to_be_bytes w64 few.word) ≡ octets
few_front few octets fit h =
    let missing : ℕ = 8 - few.count in
    let none : List ℕ = zeros missing in
    let all = octets ++ none in
    let there : length none ≡ missing = length-replicate missing 0 in
    let long : length all ≡ 8 = omega (arith, length-append octets none, there, h.counted, fit) in
    let value : number_of 256 all ≡ number_of 256 octets * 256 ^ missing = number_of-append 256 octets none ∙ omega (arith, ap (λ n. number_of 256 octets * 256 ^ n) there, number_of-zeros 256 missing) in
    let each = All-append (λ octet. octet < 256) octets none h.below_256 (All-replicate (λ octet. octet < 256) missing 0 (omega arith)) in
    ap (take few.count) (word_of all few.word long each (h.spelt ∙ sym value)) ∙ ap (λ n. take n all) (sym h.counted) ∙ take_at octets none (length octets) refl

-- what is left once the others are cut off
pub word_front : (few : Few) (octets old new : List ℕ) (end : ℕ) → few.count ≤ 8 → end ≡ length old + few.count → new ≡ old ++ to_be_bytes w64 few.word → AreFew few octets → take end new ≡ old ++ octets
word_front few octets old new end fit at laid h =
    let word : List ℕ = to_be_bytes w64 few.word in
    ap (take end) laid ∙ ap (λ n. take n (old ++ word)) at ∙ take-append-add old word few.count ∙ ap (λ s. old ++ s) (few_front few octets fit h)

-- two, three and four octets, by their values
pub two_octets : (few : Few) (a b : ℕ) → a < 256 → b < 256 → few.count ≡ 2 → few.word ≡ a * 2 ^ 56 + b * 2 ^ 48 → AreFew few (a ∷ b ∷ [])
two_octets few a b small_a small_b count word = record {
  below_256 = All-cons (λ x. x < 256) a (b ∷ []) small_a (All-cons (λ x. x < 256) b [] small_b (All-nil (λ x. x < 256)));
  counted = sym count;
  spelt = let value : number_of 256 (a ∷ b ∷ []) * 256 ^ 6 ≡ a * 2 ^ 56 + b * 2 ^ 48 = omega arith in word ∙ sym value ∙ ap (λ n. number_of 256 (a ∷ b ∷ []) * 256 ^ (8 - n)) (sym count);
}

pub three_octets : (few : Few) (a b c : ℕ) → a < 256 → b < 256 → c < 256 → few.count ≡ 3 → few.word ≡ a * 2 ^ 56 + b * 2 ^ 48 + c * 2 ^ 40 → AreFew few (a ∷ b ∷ c ∷ [])
three_octets few a b c small_a small_b small_c count word = record {
  below_256 = All-cons (λ x. x < 256) a (b ∷ c ∷ []) small_a (All-cons (λ x. x < 256) b (c ∷ []) small_b (All-cons (λ x. x < 256) c [] small_c (All-nil (λ x. x < 256))));
  counted = sym count;
  spelt = let value : number_of 256 (a ∷ b ∷ c ∷ []) * 256 ^ 5 ≡ a * 2 ^ 56 + b * 2 ^ 48 + c * 2 ^ 40 = omega arith in word ∙ sym value ∙ ap (λ n. number_of 256 (a ∷ b ∷ c ∷ []) * 256 ^ (8 - n)) (sym count);
}

pub four_octets : (few : Few) (a b c d : ℕ) → a < 256 → b < 256 → c < 256 → d < 256 → few.count ≡ 4 → few.word ≡ a * 2 ^ 56 + b * 2 ^ 48 + c * 2 ^ 40 + d * 2 ^ 32 → AreFew few (a ∷ b ∷ c ∷ d ∷ [])
four_octets few a b c d small_a small_b small_c small_d count word = record {
  below_256 = All-cons (λ x. x < 256) a (b ∷ c ∷ d ∷ []) small_a (All-cons (λ x. x < 256) b (c ∷ d ∷ []) small_b (All-cons (λ x. x < 256) c (d ∷ []) small_c (All-cons (λ x. x < 256) d [] small_d (All-nil (λ x. x < 256)))));
  counted = sym count;
  spelt = let value : number_of 256 (a ∷ b ∷ c ∷ d ∷ []) * 256 ^ 4 ≡ a * 2 ^ 56 + b * 2 ^ 48 + c * 2 ^ 40 + d * 2 ^ 32 = omega arith in word ∙ sym value ∙ ap (λ n. number_of 256 (a ∷ b ∷ c ∷ d ∷ []) * 256 ^ (8 - n)) (sym count);
}

-- the powers by which a word that has octets behind others is made
record AreParts (first others : ℕ) : Type 0 where
  left : 256 ^ (8 - first) ≡ 256 ^ others * 256 ^ (8 - (first + others))
  right : 256 ^ (8 - others) ≡ 256 ^ (8 - (first + others)) * 256 ^ first
  whole : 256 ^ first * 256 ^ (8 - first) ≡ 2 ^ 64
  bits : 2 ^ (8 * first) ≡ 256 ^ first

parts : (first others : ℕ) → first + others ≤ 8 → AreParts first others
parts first others fit =
    let one : 8 - first ≡ others + (8 - (first + others)) = omega (arith, fit) in
    let two : 8 - others ≡ (8 - (first + others)) + first = omega (arith, fit) in
    let all : first + (8 - first) ≡ 8 = omega (arith, fit) in
    let eight : 256 ^ 8 ≡ 2 ^ 64 = refl in
    record {
      left = ap (λ n. 256 ^ n) one ∙ pow-add 256 others (8 - (first + others));
      right = ap (λ n. 256 ^ n) two ∙ pow-add 256 (8 - (first + others)) first;
      whole = sym (pow-add 256 first (8 - first)) ∙ ap (λ n. 256 ^ n) all ∙ eight;
      bits = eight_bits first;
    }

-- what stands behind them has moved by as many octets
moved_behind : (first others : Few) (b : List ℕ) → first.count + others.count ≤ 8 → AreFew others b → others.word / 2 ^ (8 * first.count) ≡ number_of 256 b * 256 ^ (8 - (first.count + others.count))
moved_behind first others b fit h =
    let p = parts first.count others.count fit in
    let Q = 256 ^ (8 - (first.count + others.count)) in
    let F = 256 ^ first.count in
    let spelt : others.word ≡ number_of 256 b * Q * F + 0 = h.spelt ∙ ap (λ x. number_of 256 b * x) p.right ∙ omega arith in
    ap (λ x. others.word / x) p.bits ∙ ap (λ x. x / F) spelt ∙ div-mul-add (number_of 256 b * Q) F 0 (one-le-pow first.count 256 (omega arith))

-- octets and then others
pub joined_are : (first others whole : Few) (a b : List ℕ) → first.count + others.count ≤ 8 → whole.count ≡ first.count + others.count → whole.word ≡ first.word + others.word / 2 ^ (8 * first.count) → AreFew first a → AreFew others b → AreFew whole (a ++ b)
joined_are first others whole a b fit count word f g =
    let p = parts first.count others.count fit in
    let P = 256 ^ others.count in
    let Q = 256 ^ (8 - (first.count + others.count)) in
    let value : number_of 256 (a ++ b) ≡ number_of 256 a * P + number_of 256 b = number_of-append 256 a b ∙ ap (λ n. number_of 256 a * 256 ^ n + number_of 256 b) g.counted in
    let front : first.word ≡ number_of 256 a * P * Q = f.spelt ∙ ap (λ x. number_of 256 a * x) p.left ∙ omega arith in
    let spelt : whole.word ≡ (number_of 256 a * P + number_of 256 b) * Q = omega (arith, word, front, moved_behind first others b fit g, add-mul (number_of 256 a * P) (number_of 256 b) Q) in
    record {
      below_256 = All-append (λ octet. octet < 256) a b f.below_256 g.below_256;
      counted = omega (arith, length-append a b, f.counted, g.counted, count);
      spelt = spelt ∙ ap (λ x. x * Q) (sym value) ∙ ap (λ n. number_of 256 (a ++ b) * 256 ^ (8 - n)) (sym count);
    }

-- a word has room for both
pub joined_fit : (first others : Few) (a b : List ℕ) → first.count + others.count ≤ 8 → AreFew first a → AreFew others b → first.word + others.word / 2 ^ (8 * first.count) < 2 ^ 64
joined_fit first others a b fit f g =
    let count = first.count + others.count in
    let whole : Few = record { count = count; word = first.word + others.word / 2 ^ (8 * first.count) } in
    let h = joined_are first others whole a b fit refl refl f g in
    let rest = 256 ^ (8 - count) in
    let below : number_of 256 (a ++ b) + 1 ≤ 256 ^ count = omega (arith, number_of-below 256 (a ++ b) h.below_256, ap (λ n. 256 ^ n) h.counted) in
    let most : (number_of 256 (a ++ b) + 1) * rest ≤ 256 ^ count * rest = mul-le-mul_right rest below in
    omega (arith, h.spelt, most, add-mul (number_of 256 (a ++ b)) 1 rest, (parts count 0 (omega (arith, fit))).whole, one-le-pow (8 - count) 256 (omega arith))

-- the contents octets of a number at the front of a word
pub contents_front : (number : ℤ) (count : ℕ) (contents : List ℕ) → FitsSigned w128 number → count ≤ 6 → IsInteger number contents → length contents ≡ count → (cast_unsigned w128 number % 2 ^ 64 * 2 ^ (64 - 8 * count)) % 2 ^ 64 ≡ number_of 256 contents * 256 ^ (8 - count)
contents_front number count contents fits few h size =
    let bits = cast_unsigned w128 number in
    let value = number_of 256 contents in
    let by = 2 ^ (64 - 8 * count) in
    let wide : 2 ^ (8 * (16 - count)) ≡ by * 2 ^ 64 = let more : 8 * (16 - count) ≡ (64 - 8 * count) + 64 = omega (arith, few) in ap (λ n. 2 ^ n) more ∙ pow-add 2 (64 - 8 * count) 64 in
    let rest : 256 ^ (16 - count) ≡ 256 ^ (8 - count) * 2 ^ 64 =
    let more : 16 - count ≡ (8 - count) + 8 = omega (arith, few) in
    let eight : 256 ^ 8 ≡ 2 ^ 64 = refl in
    ap (λ n. 256 ^ n) more ∙ pow-add 256 (8 - count) 8 ∙ ap (λ x. 256 ^ (8 - count) * x) eight in
    let whole : (bits * (by * 2 ^ 64)) % 2 ^ 128 ≡ value * (256 ^ (8 - count) * 2 ^ 64) = ap (λ x. (bits * x) % 2 ^ 128) (sym wide) ∙ contents_first number count contents fits (omega (arith, few)) h size ∙ ap (λ x. value * x) rest in
    let low : (bits * by) % 2 ^ 64 ≡ value * 256 ^ (8 - count) = omega (arith, whole) in
    mul-mod_first bits by (2 ^ 64) ∙ low

-- octets of some kind, once they are appended
pub put_spelt : (IsThis : List ℕ → Type 0) (r : Result (Unit {0}) NoMemory) (few : Few) (old new : List ℕ) → Spells IsThis few → OnOk r ((octets : List ℕ) → AreFew few octets → new ≡ old ++ octets) → OnErr r (new ≡ old) → Writes IsThis r old new
put_spelt IsThis (Ok done) few old new h put same = record { appended = (h.octets, put h.octets h.are, h.holds); kept = tt }
put_spelt IsThis (Err e) few old new h put same = record { appended = tt; kept = ([], same ∙ sym (append-nil old), tt) }

-- the contents octets of a number, of which it is known how many there are
pub contents_spelt : (number : ℤ) (few : Few) → FitsSigned w128 number → few.count ≤ 6 → ((contents : List ℕ) → IsInteger number contents → length contents ≡ few.count) → few.word ≡ (cast_unsigned w128 number % 2 ^ 64 * 2 ^ (64 - 8 * few.count)) % 2 ^ 64 → Spells (IsInteger number) few
contents_spelt number few fits fit sized word =
    let made = simple_contents cer SimpleType.integer (SimpleValue.integer number) cer_is_canonical fits in
    let contents : List ℕ = made.0 in
    let spelt : IsInteger number contents = made.1 in
    let size = sized contents spelt in
    record {
      octets = contents;
      are = record { below_256 = spelt.below_256; counted = size; spelt = word ∙ contents_front number few.count contents fits fit spelt size };
      holds = spelt;
    }

-- how many octets there are in both
pub joined_count : {P Q : List ℕ → Type 0} {first others : Few} (whole : Few) → Spells P first → Spells Q others → ((a b : List ℕ) → AreFew first a → AreFew others b → AreFew whole (a ++ b)) → whole.count ≡ first.count + others.count
joined_count whole f g are =
    omega (arith, (are f.octets g.octets f.are g.are).counted, f.are.counted, g.are.counted, length-append f.octets g.octets)

-- the encoding of a number: a head, and its contents octets
pub number_spelt : (tag : Tag) (number : ℤ) (head contents whole : Few) → Spells (IsPrimitiveHead tag contents.count) head → Spells (IsInteger number) contents → ((a b : List ℕ) → AreFew head a → AreFew contents b → AreFew whole (a ++ b)) → Spells (IsNumberEncoding tag number) whole
number_spelt tag number head contents whole h g are = record {
  octets = h.octets ++ g.octets;
  are = are h.octets g.octets h.are g.are;
  holds = number_made tag number contents.count h.octets g.octets h.holds g.are.counted g.holds;
}
