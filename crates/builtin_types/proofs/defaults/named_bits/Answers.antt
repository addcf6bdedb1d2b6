use Rattle.std.proofs.Common.{rules}
use Rattle.builtin_types.proofs.TakenLemmas.{trimmed_taken}
use Rattle.builtin_types.proofs.defaults.named_bits.Goals as goal

pub returns-in-Some : goal.returns-in-Some
returns-in-Some c = λ names. trimmed_taken _ _ _ _ names c.in_ok-bits.ensures c.in-Some.is (search rules) (search rules)
