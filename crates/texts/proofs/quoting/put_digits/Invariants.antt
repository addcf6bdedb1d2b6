use Rattle.std.proofs.Common.{◌≡◌, ◌++◌, map, string_bytes}
use Rattle.std.specs.Slice.Iter.{chunks_rest, chunks_size}
use Rattle.primitives.specs.Bits.{bits_of}
use Rattle.texts.specs.Leaf.{bit_digit}
use Rattle.texts.proofs.quoting.put_digits.Given as goal

-- what is left is appended to what stands
abbrev pub invariant-loop-chunk : goal.invariant-loop-chunk
invariant-loop-chunk l =
    goal.iterator-loop-chunk.can_next l.chunk-iterator
    × goal.iterator-loop-chunk.is_finite l.chunk-iterator
    × (chunks_size l.chunk-iterator ≡ 64)
    × (string_bytes l.out ++ map bit_digit (bits_of (chunks_rest l.chunk-iterator)) ≡ string_bytes l.initial.out ++ map bit_digit (bits_of (chunks_rest l.initial.chunk-iterator)))
