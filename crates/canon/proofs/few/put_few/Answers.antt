use Rattle.std.proofs.Common.{◌≡◌, ◌∙◌, ◌+◌, ℕ, List, length, arith}
use Rattle.canon.proofs.WordLemmas.{word_front}
use Rattle.canon.proofs.few.put_few.Goals as goal

pub returns-clause-appended : goal.returns-clause-appended
returns-clause-appended c = λ octets h.
    let few = c.args.few in
    let old : List ℕ = c.args.out.now.items in
    let end : ℕ = c.len-2.result + few.count in
    let at : end ≡ length old + few.count = omega (arith, c.len-2.ensures, c.args.out.now.ok) in
    c.truncate.ensures.items ∙ word_front few octets old c.put_word.new.out.items end c.requires at c.in_ok-put_word.ensures.appended h
