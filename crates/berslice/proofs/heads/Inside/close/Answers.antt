use Rattle.std.proofs.Common.{sym, ◌∙◌, arith}
use Rattle.std.proofs.lemmas.List.{take_rest}
use Rattle.berslice.proofs.HeadLemmas.{closed_definite, closed_indefinite}
use Rattle.berslice.proofs.heads.Inside.close.Goals as goal

pub returns-then-self-clause-value : goal.returns-then-self-clause-value
returns-then-self-clause-value c = λ tag h.
    let self = c.args.self.now in
    closed_definite tag c.args.octets.now self c.args.used c.if-self.true h (omega (arith, c.if-used-self.false, c.requires.there))

pub returns-clause-value : goal.returns-clause-value
returns-clause-value c = λ tag h.
    let self = c.args.self.now in
    let mark = c.starts_with_end.ensures.0 c.if-not-starts_with_end.false in
    closed_indefinite tag c.args.octets.now self c.args.used mark.0 c.if-self.false h c.requires.there (sym (take_rest self.octets.now c.args.used) ∙ mark.1)
