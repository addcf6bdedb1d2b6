use Rattle.std.proofs.Common.{◌≡◌, ◌≤◌}
use Rattle.published_tokens.proofs.scanner.Scanner.skip_gap.Given as goal

abbrev pub invariant-loop-turn : goal.invariant-loop-turn
invariant-loop-turn l = record {
  text : l.self.text.now ≡ l.initial.self.text.now;
  order : l.initial.self.at ≤ l.self.at;
}
