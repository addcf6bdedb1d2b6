use Rattle.encoding_parts.proofs.segments.Segments.pass.Goals as goal

pub returns-in-Err-clause-truncated : goal.returns-in-Err-clause-truncated
returns-in-Err-clause-truncated c = λ same. c.in-Err.ensures.refused.truncated (c.refusal_inside.ensures.truncated (cc same))

pub returns-in-Err-clause-never : goal.returns-in-Err-clause-never
returns-in-Err-clause-never c = λ final more h. c.in-Err.ensures.refused.never (c.refusal_inside.ensures.never final) more h

pub returns-in-Err-clause-cut : goal.returns-in-Err-clause-cut
returns-in-Err-clause-cut c = λ same.
    record { frame = c.in-Some.frame; top = c.in-Some.ensures; cut = c.in-Err.ensures.refused.cut (c.refusal_inside.ensures.truncated (cc same)) }
