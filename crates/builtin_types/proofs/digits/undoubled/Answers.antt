use Rattle.std.proofs.Common.{rules, ◌≡◌, ◌+◌, ℕ, List, [], ◌∷◌, ◌++◌, Bool, true, IsNone, Vec, Global, take, get_or, sym, ap, ◌∙◌, subst, arith}
use Rattle.lexis.specs.Spelling.{doubled}
use Rattle.std.proofs.lemmas.List.{take_more, take_all}
use Rattle.builtin_types.proofs.DigitLemmas.{first_step, second_step, second_of}
use Rattle.builtin_types.proofs.QuoteLemmas.{not_alone, not_last}
use Rattle.builtin_types.proofs.digits.undoubled.Goals as goal
use Rattle.builtin_types.proofs.digits.undoubled.Goals.{then-is_first+else-not-is_quote, else-is_first+in_ok-push, then-is_first-2, else-is_first-2}

pub loop-octet-preserved : goal.loop-octet-preserved
loop-octet-preserved c =
    let xs = c.args.quoted.now in
    let i = c.loop-octet.octet-index in
    let x = get_or xs i 0 in
    let more : take (i + 1) xs ≡ take i xs ++ x ∷ [] = take_more xs i 0 c.loop-octet-test.true in
    elim c.if-is_first.branch [
      | then-is_first+else-not-is_quote w ↦ (let f = w.if-not-is_quote.false in
          second_step (take i xs) (take (i + 1) xs) c.loop-octet.octets.items c.if-is_first.octets.items x c.loop-octet.is_first c.if-is_first.is_first more w.if-is_first.true (search rules) w.is_first-is (ap (λ (v : Vec ℕ Global). v.items) w.octets-is) c.loop-octet.invariant)
      | else-is_first+in_ok-push w ↦
          first_step (take i xs) (take (i + 1) xs) c.loop-octet.octets.items c.if-is_first.octets.items x c.loop-octet.is_first c.if-is_first.is_first more w.if-is_first.false w.is_first-is (ap (λ (v : Vec ℕ Global). v.items) w.octets-is ∙ w.in_ok-push.ensures.items) c.loop-octet.invariant
    ]

pub returns-then-not-is_quote-clause-none : goal.returns-then-not-is_quote-clause-none
returns-then-not-is_quote-clause-none c = λ none octets is.
    let h : take c.loop-octet.octet-index c.args.quoted.now ++ second_of true ≡ doubled c.loop-octet.octets.items =
    subst (λ (b : Bool). take c.loop-octet.octet-index c.args.quoted.now ++ second_of b ≡ doubled c.loop-octet.octets.items) c.if-is_first.true c.loop-octet.invariant in
    c.if-not-is_quote.true (not_alone c.args.quoted.now c.loop-octet.octets.items octets c.loop-octet.octet-index c.loop-octet-test.true h is)

pub returns-clause-none : goal.returns-clause-none
returns-clause-none c = λ none octets is.
    let all : take c.loop-octet.octet-index c.args.quoted.now ≡ c.args.quoted.now = take_all c.loop-octet.octet-index c.args.quoted.now (omega arith) in
    elim c.if-is_first-2.branch [
      | then-is_first-2 w ↦ (
          let h : take c.loop-octet.octet-index c.args.quoted.now ++ second_of true ≡ doubled c.loop-octet.octets.items =
          subst (λ (b : Bool). take c.loop-octet.octet-index c.args.quoted.now ++ second_of b ≡ doubled c.loop-octet.octets.items) w.if-is_first-2.true c.loop-octet.invariant in
          not_last c.args.quoted.now c.loop-octet.octets.items octets (ap (λ (xs : List ℕ). xs ++ 34 ∷ []) (sym all) ∙ h) is)
      | else-is_first-2 w ↦ (let some = subst IsNone w.result-is none in absurd (cc some))
    ]
