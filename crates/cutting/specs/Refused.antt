-- Refusals of heads, and faults of cutting.
use Rattle.std.specs.Prelude.{⊤}
use Rattle.types.specs.declared.refusal.Refusal.{Refusal}
use Rattle.types.specs.declared.refusal.Refusal.TheVariants.{Identifier, Form, Length, EndOfContents, StreamTooLong}
use Rattle.cutting.specs.declared.cutter.CutFault.{CutFault}
use Rattle.cutting.specs.declared.cutter.CutFault.TheVariants.{Refused, Output}

-- the refusals of identifier octets, of length octets, of an end of contents that ends nothing, and of more octets than
-- can be counted
abbrev pub IsOfHead : Refusal → Type 0
IsOfHead Identifier = ⊤
IsOfHead Form = ⊤
IsOfHead Length = ⊤
IsOfHead EndOfContents = ⊤
IsOfHead StreamTooLong = ⊤
IsOfHead _ = ⊥

-- one of these, or that a file cannot be made or written
abbrev pub IsOfCutting : CutFault → Type 0
IsOfCutting (Refused refusal) = IsOfHead refusal
IsOfCutting Output = ⊤
