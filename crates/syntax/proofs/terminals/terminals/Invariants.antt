use Rattle.std.proofs.Common.{◌≡◌, map, take}
use Rattle.lexis.specs.Signs.{sign_of}
use Rattle.syntax.specs.Reading.{terminal_sign}
use Rattle.syntax.proofs.terminals.terminals.Given as goal

abbrev pub invariant-loop-token : goal.invariant-loop-token
invariant-loop-token l = map terminal_sign l.found.items ≡ map (sign_of l.text) (take l.token-index l.tokens)
