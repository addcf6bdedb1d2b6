use Rattle.std.proofs.Common.{refl, arith}
use Rattle.canon.proofs.WordLemmas.{joined_fit, joined_are}
use Rattle.canon.proofs.few.joined.Goals as goal

pub overflow_shr-result : goal.overflow_shr-result
overflow_shr-result c = omega (arith, c.requires.fit, c.requires.some)

pub overflow_add-result-2 : goal.overflow_add-result-2
overflow_add-result-2 c = omega (arith, joined_fit c.args.first c.args.others c.requires.first.0 c.requires.others.0 c.requires.fit c.requires.first.1 c.requires.others.1)

pub returns : goal.returns
returns c = λ a b f g. joined_are c.args.first c.args.others _ a b c.requires.fit refl refl f g
