use Rattle.std.proofs.Common.{◌≡◌}
use Rattle.std.specs.Slice.Iter.{chunks_rest, chunks_size}
use Rattle.builtin_types.proofs.PackedLemmas.{ArePackedSoFar}
use Rattle.builtin_types.proofs.digits.octets_of.Given as goal

abbrev pub invariant-loop-two : goal.invariant-loop-two
invariant-loop-two l = (chunks_size l.two-iterator ≡ 2) × ArePackedSoFar l.digits (chunks_rest l.two-iterator) l.octets.items
