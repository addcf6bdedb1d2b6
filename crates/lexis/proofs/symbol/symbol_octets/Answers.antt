use Rattle.std.proofs.Common.{◌≡◌, ◌∙◌, sym, ap, subst, refl, List, ℕ, Bool, true, false, cond, get_or, ◌≤◌}
use Rattle.std.specs.Prelude.{codes}
use Rattle.lexis.specs.Octets.{begins}
use Rattle.lexis.specs.Symbols.{is_mark}
use Rattle.lexis.specs.declared.symbol.Symbol.TheVariants.{Assignment, Ellipsis, Range}
use Rattle.lexis.proofs.DigitsLemmas.{begins_take}
use Rattle.lexis.proofs.SymbolLemmas.{longest_of, symbol_fits, mark_front, NoLonger}
use Rattle.lexis.proofs.symbol.symbol_octets.Goals as goal

longest : (x : List ℕ) (n : ℕ) → longest_of x ≡ n → NoLonger x n
longest x n e m s l f = subst (λ (i : ℕ). m ≤ i) e (symbol_fits x m s l f)

first : (x : List ℕ) → begins (codes "::=") x ≡ true → longest_of x ≡ 3
first x p = rw p refl

second : (x : List ℕ) → begins (codes "::=") x ≡ false → begins (codes "...") x ≡ true → longest_of x ≡ 3
second x p q = rw p (rw q refl)

third : (x : List ℕ) → begins (codes "::=") x ≡ false → begins (codes "...") x ≡ false → begins (codes "..") x ≡ true → longest_of x ≡ 2
third x p q r = rw p (rw q (rw r refl))

mark : (x : List ℕ) (t : Bool) → begins (codes "::=") x ≡ false → begins (codes "...") x ≡ false → begins (codes "..") x ≡ false → is_mark (get_or x 0 0) ≡ t → longest_of x ≡ cond t 1 0
mark x t p q r s = rw p (rw q (rw r (ap (λ b. cond b 1 0) s)))

pub returns-then-starts_with-clause-value : goal.returns-then-starts_with-clause-value
returns-then-starts_with-clause-value c = λ _. (Assignment, begins_take (codes "::=") c.args.octets.now (sym c.starts_with.ensures.value ∙ c.if-starts_with.true))

pub returns-then-starts_with-clause-longest : goal.returns-then-starts_with-clause-longest
returns-then-starts_with-clause-longest c = longest c.args.octets.now 3 (first c.args.octets.now (sym c.starts_with.ensures.value ∙ c.if-starts_with.true))

pub returns-then-starts_with-2-clause-value : goal.returns-then-starts_with-2-clause-value
returns-then-starts_with-2-clause-value c = λ _. (Ellipsis, begins_take (codes "...") c.args.octets.now (sym c.starts_with-else-starts_with.ensures.value ∙ c.if-starts_with-2.true))

pub returns-then-starts_with-2-clause-longest : goal.returns-then-starts_with-2-clause-longest
returns-then-starts_with-2-clause-longest c = longest c.args.octets.now 3 (second c.args.octets.now (sym c.starts_with.ensures.value ∙ c.if-starts_with.false) (sym c.starts_with-else-starts_with.ensures.value ∙ c.if-starts_with-2.true))

pub returns-then-starts_with-3-clause-value : goal.returns-then-starts_with-3-clause-value
returns-then-starts_with-3-clause-value c = λ _. (Range, begins_take (codes "..") c.args.octets.now (sym c.starts_with-else-starts_with-2.ensures.value ∙ c.if-starts_with-3.true))

pub returns-then-starts_with-3-clause-longest : goal.returns-then-starts_with-3-clause-longest
returns-then-starts_with-3-clause-longest c = longest c.args.octets.now 2 (third c.args.octets.now (sym c.starts_with.ensures.value ∙ c.if-starts_with.false) (sym c.starts_with-else-starts_with.ensures.value ∙ c.if-starts_with-2.false) (sym c.starts_with-else-starts_with-2.ensures.value ∙ c.if-starts_with-3.true))

pub returns-then-begins_mark-clause-value : goal.returns-then-begins_mark-clause-value
returns-then-begins_mark-clause-value c = λ _. mark_front c.args.octets.now (sym c.begins_mark.ensures.value ∙ c.if-begins_mark.true)

pub returns-then-begins_mark-clause-longest : goal.returns-then-begins_mark-clause-longest
returns-then-begins_mark-clause-longest c = longest c.args.octets.now 1 (mark c.args.octets.now true (sym c.starts_with.ensures.value ∙ c.if-starts_with.false) (sym c.starts_with-else-starts_with.ensures.value ∙ c.if-starts_with-2.false) (sym c.starts_with-else-starts_with-2.ensures.value ∙ c.if-starts_with-3.false) (sym c.begins_mark.ensures.value ∙ c.if-begins_mark.true))

pub returns-else-begins_mark-clause-longest : goal.returns-else-begins_mark-clause-longest
returns-else-begins_mark-clause-longest c = longest c.args.octets.now 0 (mark c.args.octets.now false (sym c.starts_with.ensures.value ∙ c.if-starts_with.false) (sym c.starts_with-else-starts_with.ensures.value ∙ c.if-starts_with-2.false) (sym c.starts_with-else-starts_with-2.ensures.value ∙ c.if-starts_with-3.false) (sym c.begins_mark.ensures.value ∙ c.if-begins_mark.false))
