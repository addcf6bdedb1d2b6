use Rattle.std.proofs.Common.{◌≡◌, ◌++◌, OnOk, Bool, List, string_bytes, subst}
use Rattle.texts.specs.Leaf.{bits_text}
use Rattle.texts.proofs.TextLemmas.{bits_padded}
use Rattle.texts.proofs.quoting.put_bits.Goals as goal

pub returns : goal.returns
returns c =
    let bits = bits_padded c.args.bits.now c.octets.result.now c.unused.ensures.0 c.unused.result c.octets.ensures.0 c.octets.ensures.1 c.unused.ensures.1 in
    subst (λ (shown : List Bool). OnOk c.put_bits_before.result (string_bytes c.put_bits_before.new.out ≡ string_bytes c.args.out.now ++ bits_text shown)) bits c.put_bits_before.ensures
