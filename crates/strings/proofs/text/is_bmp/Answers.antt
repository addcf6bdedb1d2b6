use Rattle.std.proofs.Common.{rules, arith, ◌↔◌, ◌<◌, ℕ, IsTrue, Fits, w8, get_or}
use Rattle.std.proofs.iter.runs.Made.{chains}
use Rattle.strings.proofs.AlphabetLemmas.{EachBegins, from_even, to_even}
use Rattle.strings.proofs.text.is_bmp.Goals as goal

pub returns-then-contents-eq0 : goal.returns-then-contents-eq0
returns-then-contents-eq0 c =
    let each : IsTrue c.all.result ↔ EachBegins c.args.contents.now = search (rules, chains) in
    let fits = λ (i : ℕ). let fit : Fits w8 (get_or c.args.contents.now i 0) = c.type_inv.contents i in
    let below : get_or c.args.contents.now i 0 < 256 = omega arith in below in (
      λ true. from_even c.args.contents.now fits c.if-contents-eq0.true (each.0 true),
      λ bmp. each.1 (to_even c.args.contents.now bmp).1,
    )

pub returns-else-contents-eq0 : goal.returns-else-contents-eq0
returns-else-contents-eq0 c = (
  λ true. absurd (search rules),
  λ bmp. absurd (c.if-contents-eq0.false (to_even c.args.contents.now bmp).0),
)
