use Rattle.std.proofs.Common.{ℕ}
use Rattle.types.specs.View.{ty_view}
use Rattle.canon.specs.Nested.{IsBehind, IsOpened}
use Rattle.canon.proofs.nested.open_tags.Given as goal

abbrev pub invariant-loop-inner : goal.invariant-loop-inner
invariant-loop-inner l = ((count : ℕ) × IsOpened count (ty_view l.ty) l.initial.out.items (ty_view l.inner) l.out.items) × ((count : ℕ) × IsBehind count l.ty l.inner)
