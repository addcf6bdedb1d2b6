use Rattle.std.proofs.Common.{◌≢◌, List, ℕ, Option, Some, None, IfNone}
use Rattle.std.specs.List.{All}
use Rattle.std.proofs.lemmas.List.Elements.{All-contains}
use Rattle.lexis.specs.declared.symbol.Symbol.{Symbol}
use Rattle.lexis.specs.Symbols.{symbol_text, all_symbols}
use Rattle.lexis.proofs.WordLemmas.{symbol_among}
use Rattle.lexis.proofs.symbol.symbol_of.Goals as goal

none-of-all : (x : List ℕ) (r : Option Symbol) → IfNone r (All (λ s. x ≢ symbol_text s) all_symbols) → IfNone r ((s : Symbol) → x ≢ symbol_text s)
none-of-all x (Some s) h = tt
none-of-all x None h = λ s. All-contains (λ t. x ≢ symbol_text t) all_symbols s h (symbol_among s)

pub returns-clause-none : goal.returns-clause-none
returns-clause-none c = none-of-all c.args.spelling.now c.find_among.result c.find_among.ensures.none
