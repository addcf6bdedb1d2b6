use Rattle.std.proofs.Common.{◌≡◌, ◌++◌, IsAscii, string_bytes, flat_map}
use Rattle.std.specs.Slice.Iter.{chunks_rest, chunks_size}
use Rattle.texts.specs.Leaf.{quoted_octet}
use Rattle.texts.proofs.quoting.put_quoted.Given as goal

-- what is left is appended to what stands
abbrev pub invariant-loop-chunk : goal.invariant-loop-chunk
invariant-loop-chunk l =
    goal.iterator-loop-chunk.can_next l.chunk-iterator
    × goal.iterator-loop-chunk.is_finite l.chunk-iterator
    × (chunks_size l.chunk-iterator ≡ 64)
    × IsAscii (chunks_rest l.chunk-iterator)
    × (string_bytes l.out ++ flat_map quoted_octet (chunks_rest l.chunk-iterator) ≡ string_bytes l.initial.out ++ flat_map quoted_octet l.octets)
