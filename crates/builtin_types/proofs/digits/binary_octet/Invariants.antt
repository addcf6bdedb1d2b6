use Rattle.std.specs.Iterator.Adapters.{rev_source}
use Rattle.std.specs.Slice.Iter.{iter_rest}
use Rattle.builtin_types.proofs.BinaryLemmas.{AreBitsSoFar}
use Rattle.builtin_types.proofs.digits.binary_octet.Given as goal

abbrev pub invariant-loop-digit : goal.invariant-loop-digit
invariant-loop-digit l =
    (goal.iterator-loop-digit).can_next l.digit-iterator
    × (goal.iterator-loop-digit).is_finite l.digit-iterator
    × AreBitsSoFar l.digits (iter_rest (rev_source l.digit-iterator)) l.octet
