use Rattle.std.proofs.Common.{rules, ◌≡◌, ◌∙◌, Bool, true, false, not, refl, sym}
use Rattle.std.proofs.lemmas.Bool.{false≢true}
use Rattle.published_tokens.proofs.KindLemmas.{equal}
use Rattle.published_tokens.proofs.reader.Reader.name.Goals as goal

from_not : (b : Bool) → not b ≡ false → b ≡ true
from_not true e = refl
from_not false e = absurd (false≢true (sym e))

pub returns-clause-kind : goal.returns-clause-kind
returns-clause-kind c =
    let same : c.args.self.now.front.kind ≡ c.args.kind = equal _ _ (from_not _ (sym c.ne.ensures ∙ c.if-ne.false)) in
    search (rules, same)

pub returns-clause-refused : goal.returns-clause-refused
returns-clause-refused c = λ other. absurd (other (equal _ _ (from_not _ (sym c.ne.ensures ∙ c.if-ne.false))))

pub returns-clause-unchanged : goal.returns-clause-unchanged
returns-clause-unchanged c = λ other. absurd (other (equal _ _ (from_not _ (sym c.ne.ensures ∙ c.if-ne.false))))
