-- The numbers of refusals, and what they say.
use Rattle.std.specs.Prelude.{ℕ, ⊤, List, codes}
use Rattle.types.specs.declared.refusal.Refusal.{Refusal}
use Rattle.types.specs.declared.refusal.Refusal.TheVariants.{Truncated, Identifier, Form, Length, EndOfContents, Contents, Alphabet, Missing, Repeated, TooDeep, TooLong, NotCanonical, StreamTooLong, OutputTooLong, SourceFault, SinkFault, NoMemory}
use Rattle.types.specs.declared.refusal.TypeFault.{TypeFault}
use Rattle.types.specs.declared.refusal.TypeFault.TheVariants.{RepeatedNumber, TagsNotDistinct, BadDefault, TooLarge}

abbrev pub refusal_number : Refusal → ℕ
refusal_number Truncated = 1
refusal_number Identifier = 2
refusal_number Form = 3
refusal_number Length = 4
refusal_number EndOfContents = 5
refusal_number Contents = 6
refusal_number Alphabet = 7
refusal_number Missing = 8
refusal_number Repeated = 9
refusal_number TooDeep = 10
refusal_number TooLong = 11
refusal_number NotCanonical = 12
refusal_number StreamTooLong = 13
refusal_number OutputTooLong = 14
refusal_number SourceFault = 15
refusal_number SinkFault = 16
refusal_number NoMemory = 17

abbrev pub refusal_name : Refusal → List ℕ
refusal_name Truncated = codes "Truncated"
refusal_name Identifier = codes "Identifier"
refusal_name Form = codes "Form"
refusal_name Length = codes "Length"
refusal_name EndOfContents = codes "EndOfContents"
refusal_name Contents = codes "Contents"
refusal_name Alphabet = codes "Alphabet"
refusal_name Missing = codes "Missing"
refusal_name Repeated = codes "Repeated"
refusal_name TooDeep = codes "TooDeep"
refusal_name TooLong = codes "TooLong"
refusal_name NotCanonical = codes "NotCanonical"
refusal_name StreamTooLong = codes "StreamTooLong"
refusal_name OutputTooLong = codes "OutputTooLong"
refusal_name SourceFault = codes "SourceFault"
refusal_name SinkFault = codes "SinkFault"
refusal_name NoMemory = codes "NoMemory"

abbrev pub type_fault_number : TypeFault → ℕ
type_fault_number RepeatedNumber = 27
type_fault_number TagsNotDistinct = 28
type_fault_number BadDefault = 30
type_fault_number TooLarge = 31

-- 1 to 12: the octets themselves are refused
abbrev pub IsOfOctets : Refusal → Type 0
IsOfOctets StreamTooLong = ⊥
IsOfOctets OutputTooLong = ⊥
IsOfOctets SourceFault = ⊥
IsOfOctets SinkFault = ⊥
IsOfOctets NoMemory = ⊥
IsOfOctets _ = ⊤

-- 2 to 12: the octets are refused whatever follows them
abbrev pub IsFinal : Refusal → Type 0
IsFinal Truncated = ⊥
IsFinal refusal = IsOfOctets refusal

-- 1 to 11 and 17: what a BER reader over octets is refused with
abbrev pub IsOfReading : Refusal → Type 0
IsOfReading NotCanonical = ⊥
IsOfReading NoMemory = ⊤
IsOfReading refusal = IsOfOctets refusal

-- 14 and 17: what a writer is refused with
abbrev pub IsOfWriting : Refusal → Type 0
IsOfWriting OutputTooLong = ⊤
IsOfWriting NoMemory = ⊤
IsOfWriting _ = ⊥
