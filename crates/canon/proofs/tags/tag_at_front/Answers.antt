use Rattle.std.proofs.Common.{take, drop}
use Rattle.octets.proofs.FrontLemmas.{whole_front}
use Rattle.canon.proofs.OrderTagLemmas.{no_identifier}
use Rattle.canon.proofs.tags.tag_at_front.Goals as goal

pub returns-in-Done : goal.returns-in-Done
returns-in-Done c = λ tag within begins.
    record { constructed = c.in-Done.constructed; identifier = take c.in-Done.used c.args.octets.now; rest = drop c.in-Done.used c.args.octets.now; tagged = c.in-Done.ensures.identifier; joined = whole_front c.in-Done.used c.args.octets.now }

pub returns-in-More : goal.returns-in-More
returns-in-More c = λ tag within begins. absurd (no_identifier c.args.octets.now c.read_identifier.result c.in-More.is c.read_identifier.ensures tag within begins)
