use Rattle.std.proofs.Common.{◌≡◌, ◌++◌, ◌-◌, ◌∙◌, IsAscii, List, [], OnOk, ap, map, refl, rules, string_bytes, subst, sym, take, ℕ}
use Rattle.std.proofs.lemmas.List.{append-nil, nil_from_length, take-map}
use Rattle.std.specs.Slice.Iter.{chunks_rest}
use Rattle.primitives.specs.Bits.{bits_of, bits_of_octet}
use Rattle.texts.specs.Leaf.{bit_digit}
use Rattle.texts.proofs.AppendLemmas.{ascii_digits, chunk_more}
use Rattle.texts.proofs.TextLemmas.{digits-append, digits_end}
use Rattle.texts.proofs.quoting.put_digits.Goals as goal

first_digits : (octet count : ℕ) (eight : List ℕ) → eight ≡ map bit_digit (bits_of_octet octet) → take count eight ≡ map bit_digit (take count (bits_of_octet octet))
first_digits octet count eight is = ap (take count) is ∙ take-map bit_digit count (bits_of_octet octet)

pub put_ascii-requires : goal.put_ascii-requires
put_ascii-requires c =
    let count = 8 - c.args.unused in
    subst IsAscii (sym (first_digits c.in-Some.last.now count c.eight_digits.result c.eight_digits.ensures)) (ascii_digits (take count (bits_of_octet c.in-Some.last.now)))

pub loop-chunk-preserved : goal.loop-chunk-preserved
loop-chunk-preserved c =
    let chunk = c.in-Some-chunk.chunk.now in
    let rest = chunks_rest c.next.new.self in
    let digits = λ (octets : List ℕ). map bit_digit (bits_of octets) in (
      search rules,
      tt,
      search rules,
      chunk_more digits (string_bytes c.loop-chunk.out) (string_bytes c.put_bit_digits.new.out) chunk rest (chunks_rest c.loop-chunk.chunk-iterator) _ (digits-append chunk rest) c.in-Some-chunk.ensures.steps.1.0 c.loop-chunk.invariant.3 c.in_ok-put_bit_digits.ensures,
    )

pub returns : goal.returns
returns c =
    let old = string_bytes c.args.out.now in
    let now = string_bytes c.loop-chunk.out in
    let front = c.in-Some.front.now in
    let none_left : chunks_rest c.loop-chunk.chunk-iterator ≡ [] = nil_from_length (chunks_rest c.loop-chunk.chunk-iterator) c.in-None.ensures.steps.1.0 in
    let whole : chunks_rest c.into_iter-chunk-iterator.result ≡ front = search rules in
    let all : now ≡ old ++ map bit_digit (bits_of front) = sym (append-nil now) ∙ (ap (λ xs. now ++ map bit_digit (bits_of xs)) (sym none_left) ∙ (c.loop-chunk.invariant.3 ∙ ap (λ xs. old ++ map bit_digit (bits_of xs)) whole)) in
    let last = subst (λ (shown : List ℕ). OnOk c.put_ascii.result (string_bytes c.put_ascii.new.out ≡ now ++ shown)) (first_digits c.in-Some.last.now (8 - c.args.unused) c.eight_digits.result c.eight_digits.ensures) c.put_ascii.ensures in
    digits_end c.put_ascii.result c.args.octets.now front c.in-Some.last.now c.args.unused _ old now (string_bytes c.put_ascii.new.out) c.in-Some.ensures.cases.0 c.requires refl all last
