use Rattle.std.proofs.Common.{arith}
use Rattle.std.proofs.lemmas.Bool.{leb-true, leb-false, ltb-true, ltb-false}
use Rattle.strict.proofs.KindLemmas.{long_bits, short_bits, long_octets, short_octets}
use Rattle.strict.proofs.segments.is_long.Goals as goal

pub returns-in-Bits-clause-long : goal.returns-in-Bits-clause-long
returns-in-Bits-clause-long c = λ on. long_bits c.args.kind c.args.joined.now c.in-Bits.is c.requires (omega (arith, leb-true 1000 c.len.result on, c.len.ensures))

pub returns-in-Bits-clause-short : goal.returns-in-Bits-clause-short
returns-in-Bits-clause-short c = λ off. short_bits c.args.kind c.args.joined.now c.in-Bits.is c.requires (omega (arith, leb-false 1000 c.len.result off, c.len.ensures))

pub returns-in-Octets-clause-long : goal.returns-in-Octets-clause-long
returns-in-Octets-clause-long c = λ on. long_octets c.args.kind c.args.joined.now c.in-Octets.is (omega (arith, ltb-true 1000 c.len-in-Octets.result on, c.len-in-Octets.ensures))

pub returns-in-Octets-clause-short : goal.returns-in-Octets-clause-short
returns-in-Octets-clause-short c = λ off. short_octets c.args.kind c.args.joined.now c.in-Octets.is (omega (arith, ltb-false 1000 c.len-in-Octets.result off, c.len-in-Octets.ensures))
