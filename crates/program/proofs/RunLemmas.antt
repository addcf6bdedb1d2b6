-- Inputs that are hexadecimal text, read up to one octet more than the limit.
use Rattle.std.proofs.Common.{◌≡◌, ◌∙◌, ◌≤◌, ◌<◌, ◌⊎◌, ℕ, Bool, List, Option, Some, None, Result, Err, ap, arith, inl, inr, length, refl, subst, take, true, false}
use Rattle.std.specs.Prelude.{IfSome}
use Rattle.std.proofs.lemmas.Bool.{cases_lt}
use Rattle.std.proofs.lemmas.List.{length-take, take_all}
use Rattle.octets.specs.Rule.{Rule}
use Rattle.types.specs.Shape.{Shape}
use Rattle.program.specs.declared.tasks.Task.{Task}
use Rattle.convert.specs.declared.hex_text.HexFault.{HexFault}
use Rattle.convert.specs.declared.hex_text.HexFault.TheVariants.{NotHex, TooLong, NoMemory}
use Rattle.program.specs.Fault.{fault_of_text, fault_status}
use Rattle.convert.specs.HexText.{IsHexInput, IsHexText, most_text_octets}
use Rattle.program.specs.Run.{IsInputDone, IsInputStopped, IsStoppedAt, IsStoppedRun, IsTaskOf}
use Rattle.engine.specs.Rule.{rule_of}
use Rattle.program.specs.declared.command_line.Line.{Line}
use Rattle.program.specs.declared.fault.Fault.{Fault}
use Rattle.program.specs.declared.fault.Fault.TheVariants.{Refused}
use Rattle.program.specs.Line.{IsLineType}
use Rattle.program.specs.Task.{IsDone, IsTaskFault}

-- a text within the limit is all of the input
whole : (input text : List ℕ) → text ≡ take 4194305 input → length text ≤ 4194304 → text ≡ input
whole input text is few = is ∙ take_all 4194305 input (omega (arith, ap length is, length-take 4194305 input, few))

-- and one beyond it is a part of an input beyond it
long : (input text : List ℕ) → text ≡ take 4194305 input → 4194304 < length text → 4194304 < length input
long input text is more = omega (arith, ap length is, length-take 4194305 input, more)

abbrev text_error : (T : Type 0) → HexFault → Result T HexFault
text_error T e = Err e

few_of : (most n : ℕ) → (most < n → ⊥) → n ≤ most
few_of most n not_more = elim (cases_lt most n) [ inl more ↦ absurd (not_more more) | inr few ↦ few ]

-- a text within the limit that spells octets, as all of the input
spelt_by : (input text octets : List ℕ) → text ≡ take 4194305 input → (most_text_octets < length text → ⊥) → IsHexText octets text → IsHexInput octets input
spelt_by input text octets here not_more spelt =
    let few = few_of 4194304 (length text) not_more in
    let all = whole input text here few in
    record { spelt = subst (IsHexText octets) all spelt; within = subst (λ t. length t ≤ 4194304) all few }

module _ (task : Task) (from : Rule) (shape : Shape) (old new input : Option (List ℕ)) (text : List ℕ) (is : IfSome input (λ all. text ≡ take 4194305 all)) where
  with_input : (Holds : List ℕ → Type 0) → ((all : List ℕ) → text ≡ take 4194305 all → Holds all) → IfSome input Holds
  with_input Holds each = go input is
    where
      go : (o : Option (List ℕ)) → IfSome o (λ all. text ≡ take 4194305 all) → IfSome o Holds
      go None here = tt
      go (Some all) here = each all here

  pub text_done : (hex : Bool) (octets : List ℕ) → hex ≡ true → (most_text_octets < length text → ⊥) → IsHexText octets text → IsDone task hex from shape (Some octets) old new
      → IsInputDone hex task from shape input old new
  text_done false octets is_hex few spelt done = absurd (cc is_hex)
  text_done true octets is_hex few spelt done = with_input _ (λ all here. (octets, spelt_by all text octets here few spelt, done))

  -- octets that a text spells stopped the task
  pub octets_stopped : (status : ℕ) (hex : Bool) (octets : List ℕ) → hex ≡ true → (most_text_octets < length text → ⊥) → IsHexText octets text → IsStoppedAt status hex task from shape (Some octets) old new
      → IsInputStopped status hex task from shape input old new
  octets_stopped status false octets is_hex few spelt stopped = absurd (cc is_hex)
  octets_stopped status true octets is_hex few spelt stopped = with_input _ (λ all here. inr (octets, spelt_by all text octets here few spelt, stopped))

  -- and the fault says so
  pub fault_stopped : (hex : Bool) (octets : List ℕ) (f : Fault) → hex ≡ true → (most_text_octets < length text → ⊥) → IsHexText octets text
      → IsTaskFault task hex from shape (Some octets) old new f → IsInputStopped (fault_status f) hex task from shape input old new
  fault_stopped hex octets (Refused refusal done) is_hex few spelt stopped = octets_stopped _ hex octets is_hex few spelt (done, refusal, refl, stopped)
  fault_stopped hex octets _ is_hex few spelt stopped = absurd stopped

  -- a text is refused, or there was no memory to read it
  pub text_stopped : (T : Type 0) (hex : Bool) (e : HexFault) → hex ≡ true → (text_error T e ≡ text_error T NotHex → (octets : List ℕ) → IsHexText octets text → ⊥)
      → (text_error T e ≡ text_error T TooLong → most_text_octets < length text) → (most_text_octets < length text → text_error T e ≡ text_error T TooLong) → new ≡ old
      → (((fault_status (fault_of_text e) ≡ 1) → ⊥) × (new ≡ old)) ⊎ IsInputStopped (fault_status (fault_of_text e)) hex task from shape input old new
  text_stopped T false e is_hex none more too_long kept = absurd (cc is_hex)
  text_stopped T true NotHex is_hex none more too_long kept =
      inr (with_input _ (λ all here. inl (refl, inl (subst (λ t. (octets : List ℕ) → IsHexText octets t → ⊥) (whole all text here (few_of 4194304 (length text) (λ h. cc (too_long h)))) (none refl)), kept)))
  text_stopped T true TooLong is_hex none more too_long kept = inr (with_input _ (λ all here. inl (refl, inr (long all text here (more refl)), kept)))
  text_stopped T true NoMemory is_hex none more too_long kept = inl ((λ h. cc h), kept)

-- a run whose input stopped the line's task, or which wrote nothing and returns another status than 1
module _ (line : Line) (file : List ℕ) (type : Shape) (task : Task) (input old new : Option (List ℕ)) (status : ℕ) (is_type : IsLineType line file type) (is_task : IsTaskOf line task)
    (ended : (((status ≡ 1) → ⊥) × (new ≡ old)) ⊎ IsInputStopped status line.hex task (rule_of line.from) type input old new) where
  pub run_failed : (new ≡ old) ⊎ IsStoppedRun status line file input old new
  run_failed = elim ended [
    | inl kept ↦ inl kept.1
    | inr stopped ↦ inr (record { type = type; task = task; is_type = is_type; is_task = is_task; holds = stopped })
  ]
