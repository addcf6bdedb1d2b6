use Rattle.std.proofs.Common.{◌≡◌, ℕ, ◌+◌, ◌-◌, List, length, take, drop, sym, ◌∙◌, ap, subst}
use Rattle.std.proofs.lemmas.List.{take_rest}
use Rattle.lexis.specs.declared.token.Kind.{Kind}
use Rattle.lexis.specs.Tokens.{IsToken}
use Rattle.lexis.specs.Fronts.{StandsApart, HasNoToken}
use Rattle.lexis.proofs.ScanLemmas.{IsWholeGap, whole_gap, last_here, none_here, next_here}
use Rattle.lexis.proofs.scanning.next_token.Goals as goal

-- what is told of a slice of the octets, told of the text
token-behind : (x o : List ℕ) (s : ℕ) (k : Kind) (n : ℕ) → o ≡ x → IsToken (take (length o - s) (drop s o)) k n → IsToken (drop s x) k n
token-behind x o s k n e t = subst (λ (y : List ℕ). IsToken (drop s y) k n) e (subst (λ (y : List ℕ). IsToken y k n) (take_rest o s) t)

none-behind : (x o : List ℕ) (s : ℕ) → o ≡ x → HasNoToken (take (length o - s) (drop s o)) → HasNoToken (drop s x)
none-behind x o s e h = subst (λ (y : List ℕ). HasNoToken (drop s y)) e (subst HasNoToken (take_rest o s) h)

pub returns-then-start-octets-clause-found : goal.returns-then-start-octets-clause-found
returns-then-start-octets-clause-found c =
    let x = c.args.text.now in
    let same = c.as_bytes-octets.ensures.value in
    let g = c.gap.ensures in
    let whole = subst (λ (y : List ℕ). IsWholeGap y c.args.at c.gap.result) same (whole_gap c.as_bytes-octets.result.now c.args.at c.gap.result g.value g.whole g.only) in
    last_here x c.args.at c.gap.result c.requires whole (c.if-start-octets.true ∙ ap length same)

pub token_in_front-requires-clause-apart : goal.token_in_front-requires-clause-apart
token_in_front-requires-clause-apart c =
    let o = c.as_bytes-octets.result.now in
    let g = c.gap.ensures in
    let whole = whole_gap o c.args.at c.gap.result g.value g.whole g.only in
    subst StandsApart (sym (take_rest o (c.args.at + c.gap.result))) whole.apart

pub returns-in-Ok-clause-found : goal.returns-in-Ok-clause-found
returns-in-Ok-clause-found c =
    let x = c.args.text.now in
    let same = c.as_bytes-octets.ensures.value in
    let g = c.gap.ensures in
    let whole = subst (λ (y : List ℕ). IsWholeGap y c.args.at c.gap.result) same (whole_gap c.as_bytes-octets.result.now c.args.at c.gap.result g.value g.whole g.only) in
    next_here x c.args.at c.gap.result c.in-Ok.kind c.in-Ok.used c.requires whole (λ e. c.if-start-octets.false (e ∙ ap length (sym same)))
    (token-behind x c.as_bytes-octets.result.now (c.args.at + c.gap.result) c.in-Ok.kind c.in-Ok.used same c.in-Ok.ensures)

pub returns-in-Err-clause-refused : goal.returns-in-Err-clause-refused
returns-in-Err-clause-refused c =
    let x = c.args.text.now in
    let same = c.as_bytes-octets.ensures.value in
    let g = c.gap.ensures in
    let whole = subst (λ (y : List ℕ). IsWholeGap y c.args.at c.gap.result) same (whole_gap c.as_bytes-octets.result.now c.args.at c.gap.result g.value g.whole g.only) in
    none_here x c.args.at c.gap.result c.requires whole (λ e. c.if-start-octets.false (e ∙ ap length (sym same)))
    (none-behind x c.as_bytes-octets.result.now (c.args.at + c.gap.result) same c.in-Err.ensures)
