use Rattle.std.proofs.Common.{◌≡◌, false, map, take}
use Rattle.syntax.specs.View.{component}
use Rattle.builtin_types.specs.Tagging.{are_written_with_tag}
use Rattle.builtin_types.proofs.tagging.are_components_tagged.Given as goal

abbrev pub invariant-loop-component : goal.invariant-loop-component
invariant-loop-component l = are_written_with_tag (map component (take l.component-index l.components)) ≡ false
