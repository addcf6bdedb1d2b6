use Rattle.std.proofs.Common.{◌≡◌, false, true, sym, subst, List, ℕ, ◌∙◌}
use Rattle.primitives.specs.Bits.{IsPadded}
use Rattle.primitives.proofs.BitsLemmas.{one_padding}
use Rattle.canon.proofs.CopyLemmas.{can_be_unused, bits_copied}
use Rattle.canon.proofs.copying.copy_bits.Goals as goal

pub unreachable-requires : goal.unreachable-requires
unreachable-requires c =
    let bits = c.args.bits.now in
    let one = one_padding bits c.octets.result.now c.unused.ensures.0 c.octets.ensures.0 c.unused.result c.octets.ensures.1 c.unused.ensures.1 in
    let here : IsPadded bits c.in_ok-octets.octets.items c.unused.result = subst (λ (o : List ℕ). IsPadded bits o c.unused.result) (sym one.octets ∙ sym c.in_ok-octets.ensures.items) c.unused.ensures.1 in
    let wrong : false ≡ true = c.in_default.ensures.some.1 (can_be_unused bits c.in_ok-octets.octets.items c.unused.result here) in
    cc

pub returns : goal.returns
returns c =
    let bits = c.args.bits.now in
    let one = one_padding bits c.octets.result.now c.unused.ensures.0 c.octets.ensures.0 c.unused.result c.octets.ensures.1 c.unused.ensures.1 in
    let here : IsPadded bits c.in_ok-octets.octets.items c.unused.result = subst (λ (o : List ℕ). IsPadded bits o c.unused.result) (sym one.octets ∙ sym c.in_ok-octets.ensures.items) c.unused.ensures.1 in
    bits_copied bits c.in-Some.copy c.in_ok-octets.octets.items c.unused.result here c.in-Some.ensures.value
