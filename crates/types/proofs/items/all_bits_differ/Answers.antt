use Rattle.std.proofs.Common.{pos, take, map, length, sym, ap, subst, ◌≡◌, ◌∙◌, ◌↔◌, arith, IsTrue}
use Rattle.std.proofs.lemmas.List.{take_all}
use Rattle.types.proofs.ItemLemmas.{AllDiffer, bit_numbers, differ_as_naturals}
use Rattle.types.proofs.items.all_bits_differ.Goals as goal

pub returns : goal.returns
returns c =
    let bits = c.args.bits.now in
    let at_end : c.loop-i.i ≡ length bits = omega arith in
    let copied : map pos (bit_numbers bits) ≡ take (length bits) c.loop-i.numbers =
    ap (λ l. map pos (bit_numbers l)) (sym (take_all c.loop-i.i bits (omega arith))) ∙ c.loop-i.invariant.0 ∙ ap (λ k. take k c.loop-i.numbers) at_end in
    let told = subst (λ l. IsTrue c.differ.result ↔ AllDiffer l) (sym copied) c.differ.ensures in
    let same = differ_as_naturals (bit_numbers bits) in
    (λ yes. same.0 (told.0 yes), λ differ. told.1 (same.1 differ))
