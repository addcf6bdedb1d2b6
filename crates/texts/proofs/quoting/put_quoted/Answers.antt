use Rattle.std.proofs.Common.{◌≡◌, rules, IsAscii, flat_map, string_bytes, subst}
use Rattle.std.proofs.lemmas.Grind.{flat_map-append}
use Rattle.std.specs.Slice.Iter.{chunks_rest}
use Rattle.texts.specs.Leaf.{quoted_octet}
use Rattle.texts.proofs.AppendLemmas.{printable_ascii, ascii_front, ascii_back, chunk_more}
use Rattle.texts.proofs.quoting.put_quoted.Goals as goal

pub loop-chunk-init : goal.loop-chunk-init
loop-chunk-init c =
    let all : c.args.octets.now ≡ chunks_rest c.into_iter-chunk-iterator.result = search rules in (search rules, tt, search rules, subst IsAscii all (printable_ascii c.args.octets.now c.requires), search rules)

pub put_characters-requires-clause-ascii : goal.put_characters-requires-clause-ascii
put_characters-requires-clause-ascii c = ascii_front c.in-Some.chunk.now (chunks_rest c.next.new.self) (subst IsAscii c.in-Some.ensures.steps.1.0 c.loop-chunk.invariant.3)

pub loop-chunk-preserved : goal.loop-chunk-preserved
loop-chunk-preserved c =
    let chunk = c.in-Some.chunk.now in
    let left = chunks_rest c.loop-chunk.chunk-iterator in
    let rest = chunks_rest c.next.new.self in
    let parts = c.in-Some.ensures.steps.1.0 in (
      search rules,
      tt,
      search rules,
      ascii_back chunk rest (subst IsAscii parts c.loop-chunk.invariant.3),
      chunk_more (flat_map quoted_octet) (string_bytes c.loop-chunk.out) (string_bytes c.put_characters.new.out) chunk rest left _ (flat_map-append quoted_octet chunk rest) parts c.loop-chunk.invariant.4 c.in_ok-put_characters.ensures,
    )
