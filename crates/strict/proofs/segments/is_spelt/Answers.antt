use Rattle.std.proofs.Common.{length}
use Rattle.std.proofs.lemmas.Bool.{le-ltb, ltb-true, ltb-false}
use Rattle.strict.proofs.KindLemmas.{tells_bits, tells_no_bits, tells_octets}
use Rattle.strict.proofs.segments.is_spelt.Goals as goal

pub returns-then-contents-gt1 : goal.returns-then-contents-gt1
returns-then-contents-gt1 c = tells_bits c.args.kind c.has_zeros_unused.result c.args.contents.now c.in-Bits.is c.if-contents-gt1.true c.has_zeros_unused.ensures

pub returns-else-contents-gt1 : goal.returns-else-contents-gt1
returns-else-contents-gt1 c = tells_no_bits c.args.kind _ c.args.contents.now c.in-Bits.is c.if-contents-gt1.false (le-ltb 1 (length c.args.contents.now) c.if-contents-gt1.false)

pub returns-in-Octets : goal.returns-in-Octets
returns-in-Octets c = tells_octets c.args.kind _ c.args.contents.now c.in-Octets.is (ltb-true 0 (length c.args.contents.now)) (ltb-false 0 (length c.args.contents.now))
