use Rattle.std.proofs.Common.{◌≡◌, ◌+◌, ◌-◌, ◌*◌, ◌/◌, ◌≤◌, ◌∙◌, ◌∷◌, [], ◌++◌, true, length, length-append, sym, ap, subst, arith}
use Rattle.octets.specs.Length.{IsShortestLength}
use Rattle.canon.proofs.SegmentLemmas.{counted, full_count, last_count}
use Rattle.canon.proofs.segments.size_of_cut.Goals as goal

pub returns : goal.returns
returns c = λ segment whole front string b low one two three h.
    let lead = c.args.lead in
    let n = c.args.octets in
    let room = 1000 - lead in
    let q = (n - 1) / room in
    let k = counted segment whole front room string h.segments_octets low (one ∙ sym two) (omega (arith, two)) h.segments in
    let is : n ≡ k.full * room + k.last = sym three ∙ k.string_is in
    let few : lead + k.last ≤ 1000 = omega (arith, k.at_most, two) in
    let full : q ≡ k.full = full_count lead n k.full k.last c.requires.lead k.at_least_one few is in
    let last : lead + n - q * room ≡ lead + k.last = last_count lead n q k.full k.last room full is in
    let head : length front + k.last ≡ lead + n - q * room = ap (λ x. x + k.last) two ∙ sym last in
    let size = c.size_of_length.ensures.size k.size (subst (λ x. IsShortestLength x k.size) head k.sized) in
    let product : q * 1004 ≡ k.full * 1004 = ap (λ x. x * 1004) full in
    let first = c.size_of_identifier.ensures.size true h.constructed.identifier h.constructed.tagged in
    omega (arith, k.octets_are, size, product, head, first, ap length h.constructed.joined, length-append h.constructed.identifier (128 ∷ (h.segments_octets ++ (0 ∷ 0 ∷ []))), length-append h.segments_octets (0 ∷ 0 ∷ []))
