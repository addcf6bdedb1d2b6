use Rattle.std.proofs.Common.{◌≡◌, false, map, take}
use Rattle.syntax.specs.View.{alternative}
use Rattle.builtin_types.specs.Tagging.{are_alternatives_written_with_tag}
use Rattle.builtin_types.proofs.tagging.are_alternatives_tagged.Given as goal

abbrev pub invariant-loop-alternative : goal.invariant-loop-alternative
invariant-loop-alternative l = are_alternatives_written_with_tag (map alternative (take l.alternative-index l.alternatives)) ≡ false
