-- Lemmas on what stands where an open encoding may end.
use Rattle.std.proofs.Common.{◌≡◌, ◌⊎◌, inl, inr, ◌++◌, ℕ, List, ap, ◌∙◌}
use Rattle.encoding_parts.specs.declared.frame.Frame.{Frame}
use Rattle.encoding_parts.specs.declared.joined.SegmentKind.{SegmentKind}
use Rattle.types.proofs.NestingLemmas.{IsAboveZero, identifier_above}
use Rattle.encoding_parts.specs.Head.{IsTagWithin}
use Rattle.encoding_parts.specs.Joined.{segment_of}
use Rattle.encoding_parts.specs.Segments.{BeginsAboveZero, EndsAt}
use Rattle.encoding_parts.proofs.JoinedLemmas.{kept_segment}

pub begins_above : (part rest octets : List ℕ) → octets ≡ part ++ rest → IsAboveZero part → BeginsAboveZero octets
begins_above part rest octets is h = (h.first, h.others ++ rest, h.above, is ∙ ap (λ x. x ++ rest) h.is)

pub segment_above : (kind : SegmentKind) (f : Frame) (taken : ℕ) (octets : List ℕ) → EndsAt f taken octets ⊎ IsTagWithin (segment_of kind) f.end taken octets → EndsAt f taken octets ⊎ BeginsAboveZero octets
segment_above kind f taken octets (inl e) = inl e
segment_above kind f taken octets (inr t) = inr (begins_above t.identifier t.rest octets t.parts (identifier_above (segment_of kind) t.constructed t.identifier (kept_segment kind) t.tagged))
