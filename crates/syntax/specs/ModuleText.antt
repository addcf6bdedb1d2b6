-- Module texts: the texts that spell a module within the limits.
use Rattle.std.specs.Prelude.{◌≡◌, ℕ, List, map, ◌⊎◌}
use Rattle.lexis.specs.declared.token.Token.{Token}
use Rattle.lexis.specs.declared.fault.Fault.{Fault}
use Rattle.lexis.specs.Tokens.{IsTokens}
use Rattle.lexis.specs.Signs.{sign_of}
use Rattle.syntax.specs.Tree.{Tree}
use Rattle.syntax.specs.Grammar.{IsSpelling}
use Rattle.syntax.specs.Limits.{FitsTree}

-- The text spells the module: it has tokens, which stand for the module's terminals, and the module keeps the limits.
pub record IsModuleText (text : List ℕ) (m : Tree) : Type 0 where
  pub tokens : List Token
  pub are_tokens : IsTokens text tokens
  pub spelt : IsSpelling m (map (sign_of text) tokens)
  pub fits : FitsTree m

-- what a text is refused with
abbrev pub IsModuleFault : Fault → Type 0
IsModuleFault f = (f.number ≡ 21) ⊎ (f.number ≡ 22) ⊎ (f.number ≡ 23) ⊎ (f.number ≡ 31) ⊎ (f.number ≡ 32) ⊎ (f.number ≡ 33)
