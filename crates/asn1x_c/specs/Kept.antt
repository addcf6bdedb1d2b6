-- What the pointer to a type owns.
use Rattle.std.specs.Prelude.{Option, Some, None}
use base.Fml.{Fml, ftrue}
use denote.RawPtr.{Ptr}
use Rattle.std.specs.Box.Ownership.{box_owns}
use Rattle.std.specs.contracts.impls.GlobalAllocator.TheImpl.{ghosts}
use Rattle.std.specs.declared.alloc.Global.{Global}
use Rattle.types.specs.declared.ty.Ty.{Ty}
use Rattle.types.specs.contracts.well_typed.WellTyped.{the_row}

-- the heap of C, of which there is one
abbrev pub heap : Global
heap = record { memory = record { seal = tt } }

-- what a box of the type owns, where there is one
abbrev pub kept_owns : Ptr → Option Ty → Fml
kept_owns p None = ftrue
kept_owns p (Some ty) = box_owns (ghosts.dealloc_token heap) the_row p ty
