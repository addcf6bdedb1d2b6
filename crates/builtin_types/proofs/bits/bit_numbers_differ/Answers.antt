use Rattle.std.proofs.Common.{◌↔◌, IsTrue, subst}
use Rattle.types.proofs.ItemLemmas.{AllDiffer}
use Rattle.builtin_types.proofs.BitLemmas.{numbers, numbers_apart}
use Rattle.builtin_types.proofs.bits.bit_numbers_differ.Goals as goal

pub returns : goal.returns
returns c =
    let told = subst (λ l. IsTrue c.ascending_differ.result ↔ AllDiffer l) c.deref.ensures.value c.ascending_differ.ensures in
    let same = numbers_apart (numbers c.args.bits.now) c.in_ok-numbers.numbers.items c.in_ok-numbers.ensures.same in
    (λ yes. same.0 (told.0 yes), λ differ. told.1 (same.1 differ))
