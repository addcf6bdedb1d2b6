use Rattle.std.proofs.Common.{arith}
use Rattle.std.proofs.lemmas.Bool.{iff_false}
use Rattle.primitives.proofs.IntegerLemmas.{at_most_sixteen_octets}
use Rattle.primitives.proofs.integer.read_integer.Goals as goal
use Rattle.primitives.proofs.integer.read_integer.Goals.{then-contents-gt16-via-then-contents-gt16, then-contents-gt16-via-else-contents-gt16+then-not-is_shortest}

pub returns-then-contents-gt16-clause-none : goal.returns-then-contents-gt16-clause-none
returns-then-contents-gt16-clause-none c = λ number fits h.
    elim c.then-contents-gt16.branch [
      | then-contents-gt16-via-then-contents-gt16 w ↦ let few = at_most_sixteen_octets number c.args.contents.now fits h in absurd (omega (arith, few, w.if-contents-gt16.true))
      | then-contents-gt16-via-else-contents-gt16+then-not-is_shortest w ↦ iff_false w.is_shortest.ensures w.if-not-is_shortest.true h.shortest
    ]
