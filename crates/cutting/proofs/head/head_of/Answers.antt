use Rattle.cutting.proofs.ReadLemmas.{no_identifier_no_head, no_identifier_never, identifier_short}
use Rattle.cutting.proofs.head.head_of.Goals as goal

pub returns-in-More : goal.returns-in-More
returns-in-More c =
    let h = c.in-More.ensures in
    (no_identifier_no_head c.args.octets.now h.0, identifier_short c.args.octets.now h.1)

pub returns-in-Bad : goal.returns-in-Bad
returns-in-Bad c =
    let h = c.in-Bad.ensures in
    (tt, λ e. cc e, λ more. no_identifier_never c.args.octets.now more h.0 h.1)
