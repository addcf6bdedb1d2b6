use Rattle.std.proofs.Common.{◌≡◌, map, take, length}
use Rattle.syntax.specs.View.{assignment}
use Rattle.builtin_types.specs.Names.{AreEntered}
use Rattle.notation.specs.Known.{KnowsNothing}
use Rattle.notation.proofs.scope.Scope.new.Given as goal

abbrev pub invariant-loop-place : goal.invariant-loop-place
invariant-loop-place l = record {
  entered : AreEntered (map (λ k. k.now) l.names.keys) (map (λ a. a.0) (map assignment (take l.place l.«module».assignments.items)));
  long : length l.seen.items ≡ l.place;
  new : KnowsNothing l.seen.items;
}
