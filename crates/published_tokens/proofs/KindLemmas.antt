-- Two kinds are equal exactly where their comparison says so.
use Rattle.std.proofs.Common.{◌≡◌, true, refl, ap, subst, eq-eqb}
use Rattle.std.proofs.lemmas.Bool.{eqb-true, false≢true}
use denote.Enum.Bare.{same_true, true_same}
use Rattle.lexis.specs.contracts.word.Word.{the_type as words}
use Rattle.published_tokens.specs.contracts.symbol.Symbol.{the_type as symbols}
use Rattle.published_tokens.specs.declared.token.Kind.{Kind}
use Rattle.published_tokens.specs.declared.token.Kind.TheVariants.{Reserved, Upper, Lower, Field, Number, Binary, Hex, Chars, Symbol, End, Bad, Unclosed, TooGreat}
use Rattle.published_tokens.specs.contracts.token.KindPartialEq.TheImpl.{ghosts}

pub equal : (k j : Kind) → ghosts.eq k j ≡ true → k ≡ j
equal (Reserved v) (Reserved w) e = ap Reserved (same_true words tt v w e)
equal (Number m) (Number n) e = ap Number (eqb-true m n e)
equal (Symbol s) (Symbol t) e = ap Symbol (same_true symbols tt s t e)
equal Upper Upper e = refl
equal Lower Lower e = refl
equal Field Field e = refl
equal Binary Binary e = refl
equal Hex Hex e = refl
equal Chars Chars e = refl
equal End End e = refl
equal Bad Bad e = refl
equal Unclosed Unclosed e = refl
equal TooGreat TooGreat e = refl
equal _ _ e = absurd (false≢true e)

itself : (k : Kind) → ghosts.eq k k ≡ true
itself (Reserved w) = true_same words w w refl
itself (Number n) = eq-eqb n n refl
itself (Symbol s) = true_same symbols s s refl
itself _ = refl

pub same : (k j : Kind) → k ≡ j → ghosts.eq k j ≡ true
same k j e = subst (λ j. ghosts.eq k j ≡ true) e (itself k)
