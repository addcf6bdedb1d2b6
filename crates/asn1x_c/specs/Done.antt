-- What a call over octets comes to.
use Rattle.std.specs.Prelude.{◌≡◌, ◌≢◌, ◌≤◌, ◌++◌, ℕ, List, length, take, drop, if◌then◌else◌, nat_le, Option, Some, Result, Ok, Err}
use Rattle.octets.specs.Front.{HasFront}
use Rattle.octets.specs.Rule.{Rule}
use Rattle.types.specs.declared.refusal.Refusal.{Refusal}
use Rattle.types.specs.declared.refusal.Refusal.TheVariants.{Truncated, SourceFault}
use Rattle.types.specs.declared.ty.Ty.{Ty}
use Rattle.types.specs.Encoding.{IsAccepted, IsSomeAccepted}
use Rattle.types.specs.Refusal.{IsFinal, refusal_number}
use Rattle.types.specs.Shape.{Shape}
use Rattle.types.specs.View.{ty_view}
use Rattle.texts.specs.Shown.{IsShown}
use Rattle.engine.specs.Refusal.{IsOfChecking, IsOfConverting, IsOfListing, IsOfReadingBy}
use Rattle.engine.specs.Stream.{IsChecked, IsCheckStopped, IsConverted, IsLine, IsListed, IsStopped}
use Rattle.engine.specs.Transcoding.{EndsInside}
use Rattle.engine.specs.declared.stopped.Stopped.{Stopped}
use Rattle.asn1x_c.specs.Numbers.{wrong_argument}
use Rattle.asn1x_c.specs.declared.done.Done.{Done}
use Rattle.asn1x_c.specs.declared.done.ModuleFault.{ModuleFault}

-- what is written stands at the front of a buffer that has room for all of it; else the buffer is as it was
abbrev pub with_front : List ℕ → List ℕ → List ℕ
with_front written old = if nat_le (length written) (length old) then written ++ drop (length written) old else old

-- and its octets are counted, whether there was room or not
pub record IsPut (written old new : List ℕ) (size : ℕ) : Type 0 where
  pub counted : size ≡ length written
  pub put : new ≡ with_front written old

-- why a call stopped, by the number that C gets
pub record StoppedBy (number : ℕ) (P : Refusal → Type 0) : Type 0 where
  pub refusal : Refusal
  pub numbered : number ≡ refusal_number refusal
  pub why : P refusal

-- and why one that goes to the end of the octets did, by the refusals that it has: octets in memory are a source that
-- never fails
pub record StreamStoppedBy (number : ℕ) (IsOfCall P : Refusal → Type 0) : Type 0 where
  pub stopped : StoppedBy number P
  pub numbers : IsOfCall stopped.refusal
  pub source : stopped.refusal ≢ SourceFault

-- octets were converted: with no refusal all of them, else the values before it
pub record HasConverted (from to : Rule) (shape : Shape) (octets old new : List ℕ) (done : Done) : Type 0 where
  pub written : List ℕ
  pub put : IsPut written old new done.octets
  pub converted : done.refusal ≡ 0 → IsConverted from to shape done.values octets written
  pub stopped : done.refusal ≢ 0 → StreamStoppedBy done.refusal (IsOfConverting from) (λ refusal. IsStopped (IsAccepted to shape) from shape done.values refusal octets written)

-- they were listed: a line of text for each value
pub record HasListed (from : Rule) (shape : Shape) (octets old new : List ℕ) (done : Done) : Type 0 where
  pub written : List ℕ
  pub put : IsPut written old new done.octets
  pub listed : done.refusal ≡ 0 → IsListed (IsShown shape) from shape done.values octets written
  pub stopped : done.refusal ≢ 0 → StreamStoppedBy done.refusal (IsOfListing from) (λ refusal. IsStopped (IsLine (IsShown shape)) from shape done.values refusal octets written)

-- they were checked
pub record HasChecked (from : Rule) (shape : Shape) (octets : List ℕ) (done : Done) : Type 0 where
  pub none_written : done.octets ≡ 0
  pub checked : done.refusal ≡ 0 → IsChecked from shape done.values octets
  pub stopped : done.refusal ≢ 0 → StreamStoppedBy done.refusal (IsOfChecking from) (λ refusal. IsCheckStopped from shape done.values refusal octets)

-- no value is at the front of the octets, and after some refusals none of any octets that begin so
pub record HasNoFirst (rule : Rule) (shape : Shape) (octets : List ℕ) (refusal : Refusal) : Type 0 where
  pub truncated : refusal ≡ Truncated → ¬ HasFront (IsSomeAccepted rule shape) octets
  pub begun : refusal ≡ Truncated → EndsInside rule shape octets
  pub never : IsFinal refusal → (more : List ℕ) → ¬ HasFront (IsSomeAccepted rule shape) (octets ++ more)

-- so many octets at the front encode a value
pub record IsFirst (rule : Rule) (shape : Shape) (octets : List ℕ) (count : ℕ) : Type 0 where
  pub within : count ≤ length octets
  pub accepted : IsSomeAccepted rule shape (take count octets)

-- the first value was read
pub record HasRead (rule : Rule) (shape : Shape) (octets : List ℕ) (done : Done) : Type 0 where
  pub read : done.refusal ≡ 0 → (done.values ≡ 1) × IsFirst rule shape octets done.octets
  pub refused : done.refusal ≢ 0 → (done.values ≡ 0) × (done.octets ≡ 0) × StoppedBy done.refusal (λ refusal. IsOfReadingBy rule refusal × HasNoFirst rule shape octets refusal)

-- nothing was done, since an argument is none
abbrev pub IsWrong : Done → Type 0
IsWrong done = (done.refusal ≡ wrong_argument) × (done.values ≡ 0) × (done.octets ≡ 0)

-- a fault that stands nowhere in a module is given its front
abbrev pub HasNoPlace : ModuleFault → Type 0
HasNoPlace fault = (fault.line ≡ 1) × (fault.column ≡ 1)

-- what a call comes to, by the type that is held and the rule of the number that is passed
abbrev pub ByRule : Option Ty → Option Rule → (Shape → Rule → Type 0) → Type 0 → Type 0
ByRule (Some ty) (Some rule) Does Wrong = Does (ty_view ty) rule
ByRule _ _ Does Wrong = Wrong

-- the same by two rules
abbrev pub ByRules : Option Ty → Option Rule → Option Rule → (Shape → Rule → Rule → Type 0) → Type 0 → Type 0
ByRules ty from (Some to) Does Wrong = ByRule ty from (λ shape rule. Does shape rule to) Wrong
ByRules ty from _ Does Wrong = Wrong

-- the result of a call, as C gets it
abbrev pub done_of : Result ℕ Stopped → ℕ → Done
done_of (Ok values) size = record { refusal = 0; values = values; octets = size }
done_of (Err stopped) size = record { refusal = refusal_number stopped.refusal; values = stopped.done; octets = size }
