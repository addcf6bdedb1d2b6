use Rattle.std.proofs.Common.{◌≡◌, ◌*◌, ◌∙◌, IsAscii, ap, arith, length, map, refl, subst, sym, take}
use Rattle.primitives.specs.Bits.{bits_of}
use Rattle.texts.specs.Leaf.{bit_digit}
use borrow.Rule.Slice.PartMut.{same_len_mid}
use Rattle.texts.proofs.AppendLemmas.{ascii_digits}
use Rattle.texts.proofs.TextLemmas.{digits_more}
use Rattle.texts.proofs.quoting.put_bit_digits.Goals as goal

pub loop-place-preserved : goal.loop-place-preserved
loop-place-preserved c = (
  digits_more c.args.octets.now c.loop-place.digits c.copy_from_slice.new.self c.loop-place.place _ _ c.loop-place-test.true refl (omega arith) (c.copy_from_slice.ensures.after ∙ c.eight_digits.ensures) c.loop-place.invariant.0,
  same_len_mid (8 * c.loop-place.place) _ c.loop-place.digits c.copy_from_slice.new.self c.copy_from_slice.ensures.len ∙ c.loop-place.invariant.1,
)

pub put_ascii-requires : goal.put_ascii-requires
put_ascii-requires c =
    let octets = c.args.octets.now in
    let digits = c.loop-place.digits in
    let all : take (8 * length octets) digits ≡ map bit_digit (bits_of (take c.loop-place.place octets)) = ap (λ n. take (8 * n) digits) (omega arith) ∙ c.loop-place.invariant.0 in
    subst IsAscii (sym all) (ascii_digits (bits_of (take c.loop-place.place octets)))
