use Rattle.std.proofs.Common.{◌≡◌}
use Rattle.std.specs.Slice.Iter.{chunks_rest, chunks_size}
use Rattle.builtin_types.proofs.BinaryLemmas.{AreOctetsSoFar}
use Rattle.builtin_types.proofs.digits.binary_octets.Given as goal

abbrev pub invariant-loop-eight : goal.invariant-loop-eight
invariant-loop-eight l = (chunks_size l.eight-iterator ≡ 8) × AreOctetsSoFar l.digits (chunks_rest l.eight-iterator) l.octets.items
