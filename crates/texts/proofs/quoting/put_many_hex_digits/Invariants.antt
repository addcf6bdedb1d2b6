use Rattle.std.proofs.Common.{◌≡◌, ◌++◌, IsAscii, length, string_bytes, flat_map}
use Rattle.std.specs.Slice.Iter.{chunks_rest, chunks_size}
use Rattle.texts.specs.Leaf.{hex_digits}
use Rattle.texts.proofs.quoting.put_many_hex_digits.Given as goal

-- what is left is appended to what stands
abbrev pub invariant-loop-chunk : goal.invariant-loop-chunk
invariant-loop-chunk l =
    goal.iterator-loop-chunk.can_next l.chunk-iterator
    × goal.iterator-loop-chunk.is_finite l.chunk-iterator
    × (chunks_size l.chunk-iterator ≡ 512)
    × IsAscii l.digits
    × (length l.digits ≡ 1024)
    × (string_bytes l.out ++ flat_map hex_digits (chunks_rest l.chunk-iterator) ≡ string_bytes l.initial.out ++ flat_map hex_digits l.octets)
