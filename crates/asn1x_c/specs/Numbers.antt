-- The numbers of rules, of refusals and of faults, as C has them.
use Rattle.std.specs.Prelude.{◌-◌, ◌==◌, ◌&&◌, ◌≤◌, ℕ, List, [], ◌∷◌, Option, None, if◌then◌else◌, nat_lt, slice_get, unwrap_or, option_map}
use Rattle.octets.specs.Rule.{Rule, ber, cer, der}
use Rattle.types.specs.Refusal.{refusal_name}
use Rattle.types.specs.declared.refusal.Refusal.{Refusal}
use Rattle.types.specs.declared.refusal.Refusal.TheVariants.{Truncated, Identifier, Form, Length, EndOfContents, Contents, Alphabet, Missing, Repeated, TooDeep, TooLong, NotCanonical, StreamTooLong, OutputTooLong, SourceFault, SinkFault, NoMemory}
use Rattle.lexis.specs.FaultName.{name_of_fault}

-- 0 is BER, 1 is CER, 2 is DER
abbrev pub rule_numbered : ℕ → Option Rule
rule_numbered number = slice_get (ber ∷ cer ∷ der ∷ []) number

-- values are written by the latter two
abbrev pub canonical_numbered : ℕ → Option Rule
canonical_numbered number = if number == 0 then None else rule_numbered number

-- an argument that a call cannot take: no type, the number of no rule, a name that is no text
abbrev pub wrong_argument : ℕ
wrong_argument = 255

-- the refusals 1 to 17, in order
abbrev pub refusals : List Refusal
refusals =
    Truncated
    ∷ Identifier
    ∷ Form
    ∷ Length
    ∷ EndOfContents
    ∷ Contents
    ∷ Alphabet
    ∷ Missing
    ∷ Repeated
    ∷ TooDeep
    ∷ TooLong
    ∷ NotCanonical
    ∷ StreamTooLong
    ∷ OutputTooLong
    ∷ SourceFault
    ∷ SinkFault
    ∷ NoMemory
    ∷ []

abbrev pub refusal_numbered : ℕ → Option Refusal
refusal_numbered number = if number == 0 then None else slice_get refusals (number - 1)

-- a module is refused with 21 to 33
abbrev pub IsFaultNumber : ℕ → Type 0
IsFaultNumber number = (21 ≤ number) × (number ≤ 33)

-- the name of a refusal or of a fault, and of other numbers none
abbrev pub name_numbered : ℕ → List ℕ
name_numbered number =
    unwrap_or (option_map refusal_name (refusal_numbered number)) (if nat_lt 20 number && nat_lt number 34 then name_of_fault number else [])
