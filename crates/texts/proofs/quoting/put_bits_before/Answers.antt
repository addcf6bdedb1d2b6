use Rattle.std.proofs.Common.{◌∙◌, ◌++◌, ap, codes, map, refl, string_bytes}
use Rattle.primitives.specs.Bits.{bits_before}
use Rattle.texts.specs.Leaf.{bit_digit}
use Rattle.texts.proofs.TextLemmas.{quoted}
use Rattle.texts.proofs.quoting.put_bits_before.Goals as goal

pub returns : goal.returns
returns c =
    let digits = map bit_digit (bits_before c.args.octets.now c.args.unused) in
    quoted (string_bytes c.args.out.now) (string_bytes c.push_str.new.self) (string_bytes c.put_digits.new.out) (string_bytes c.push_str-2.new.self) digits digits (c.in_ok-push_str.ensures.bytes ∙ ap (λ b. b ++ codes "'") c.reserve.ensures.bytes) c.in_ok-put_digits.ensures refl c.in_ok-push_str-2.ensures.bytes
