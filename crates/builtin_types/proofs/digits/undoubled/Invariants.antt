use Rattle.std.proofs.Common.{◌≡◌, ◌++◌, take}
use Rattle.lexis.specs.Spelling.{doubled}
use Rattle.builtin_types.proofs.DigitLemmas.{second_of}
use Rattle.builtin_types.proofs.digits.undoubled.Given as goal

abbrev pub invariant-loop-octet : goal.invariant-loop-octet
invariant-loop-octet l = take l.octet-index l.quoted ++ second_of l.is_first ≡ doubled l.octets.items
