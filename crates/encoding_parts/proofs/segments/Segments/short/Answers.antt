use Rattle.std.proofs.Common.{rules}
use Rattle.encoding_parts.proofs.ShortLemmas.{short_segment}
use Rattle.encoding_parts.proofs.segments.Segments.short.Goals as goal

pub returns : goal.returns
returns c =
    short_segment c.args.kind c.args.self.now c.args.frame c.segment_tag.result c.saturating_sub-room.result c.args.octets.now c.short_primitive.result c.segment_tag.ensures c.saturating_sub-room.ensures (search rules) c.short_primitive.ensures
