-- Where the line that tells how many values there were, or the end of a text, is not written.
use Rattle.std.proofs.Common.{ℕ, List, [], Option, Some, None, append-nil, refl, sym}
use Rattle.std.specs.Prelude.{IfSome}
use Rattle.octets.specs.Rule.{Rule}
use Rattle.types.specs.declared.refusal.Refusal.{Refusal}
use Rattle.types.specs.declared.refusal.Refusal.TheVariants.{SinkFault}
use Rattle.types.specs.Shape.{Shape}
use Rattle.types.specs.Encoding.{IsAccepted}
use Rattle.engine.specs.Rule.{canonical_rule_of}
use Rattle.engine.specs.Stream.{IsChecked, IsCheckStopped, IsStopped, OfStream}
use Rattle.engine.specs.Canonical.{Canonical}
use Rattle.program.specs.Task.{IsTextStopped}

all_read : (from : Rule) (shape : Shape) (count : ℕ) (stream : List ℕ) → IsChecked from shape count stream → IsCheckStopped from shape count SinkFault stream
all_read from shape count stream h = record {
  values = h.values;
  counted = h.counted;
  rest = [];
  read = record { front = stream; read = h.read; whole = sym (append-nil stream) };
  refused = record {
    begun = λ b. absurd b;
    none = λ b. absurd b;
    never = λ b. absurd b;
    strict = λ e. absurd (cc e);
    by_ber = λ e. absurd (cc e);
    stream_limit = λ e. absurd (cc e);
  };
}

-- all values are done, and nothing is left of the stream
pub unwritten_count : (left : Option (List ℕ)) (from : Rule) (shape : Shape) (count : ℕ) → IfSome left (IsChecked from shape count) → IfSome left (IsCheckStopped from shape count SinkFault)
unwritten_count None from shape count h = tt
unwritten_count (Some stream) from shape count h = all_read from shape count stream h

text_read : (from : Rule) (to : Canonical) (shape : Shape) (done : ℕ) (refusal : Refusal) (stream written : List ℕ) → IsStopped (IsAccepted (canonical_rule_of to) shape) from shape done refusal stream written → IsTextStopped from to shape done SinkFault stream
text_read from to shape done refusal stream written h = record {
  read = record {
    values = h.values;
    counted = h.counted;
    rest = h.rest;
    read = h.read;
    refused = record {
      begun = λ b. absurd b;
      none = λ b. absurd b;
      never = λ b. absurd b;
      strict = λ e. absurd (cc e);
      by_ber = λ e. absurd (cc e);
      stream_limit = λ e. absurd (cc e);
    };
  };
  written = λ other. absurd (other refl);
}

-- the values done stand at the front of the stream, and what ends their text is not written
pub unwritten_end : (left old new : Option (List ℕ)) (from : Rule) (to : Canonical) (shape : Shape) (done : ℕ) (refusal : Refusal) → OfStream left old new (IsStopped (IsAccepted (canonical_rule_of to) shape) from shape done refusal) → IfSome left (IsTextStopped from to shape done SinkFault)
unwritten_end None old new from to shape done refusal h = tt
unwritten_end (Some stream) old new from to shape done refusal h = text_read from to shape done refusal stream h.0 h.2
