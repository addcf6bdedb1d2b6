use Rattle.std.proofs.Common.{◌≡◌, ◌≤◌, length}
use Rattle.published_tokens.proofs.scanner.Scanner.advance.Given as goal

abbrev pub invariant-loop-at : goal.invariant-loop-at
invariant-loop-at l = record {
  text : l.self.text.now ≡ l.initial.self.text.now;
  here : l.self.at ≡ l.at;
  end : l.end ≤ length l.self.text.now;
}
