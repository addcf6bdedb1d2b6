use Rattle.std.proofs.Common.{◌-◌, slice_set, refl, arith}
use Rattle.canon.proofs.OpeningLemmas.{short_length_put}
use Rattle.canon.proofs.heads.put_length.Goals as goal

pub returns-then-contents-lt128-clause-put : goal.returns-then-contents-lt128-clause-put
returns-then-contents-lt128-clause-put c =
    let old = c.args.out.now.items in
    let contents = c.len.result - c.args.place - 1 in
    short_length_put c.args.place contents old (slice_set old c.args.place contents) (omega (arith, c.len.ensures, c.requires)) (omega (arith, c.if-contents-lt128.true)) refl
