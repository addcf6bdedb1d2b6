-- Lemmas on what writers leave.
use Rattle.std.proofs.Common.{true, ◌≡◌, ◌<◌, ◌++◌, ℕ, List, length, arith, Ok, Err, OnOk, OnErr, IsErrAnd, sym, subst₂}
use Rattle.std.proofs.lemmas.List.Sorted.{IsPermutation-refl}
use Rattle.std.specs.declared.result.Result.{Result}
use Rattle.octets.specs.declared.no_memory.NoMemory.{NoMemory}
use Rattle.octets.specs.declared.tag.Tag.{Tag}
use Rattle.octets.specs.Front.{Appends}
use Rattle.octets.specs.Rule.{Rule}
use Rattle.types.specs.Encoding.{Meaning}
use Rattle.types.specs.Form.{IsConstructed}
use Rattle.types.proofs.ZipLemmas.{zip_length}
use Rattle.types.specs.Shape.{Shape, Val}
use Rattle.canon.specs.Node.{AreItems, AreItemsInOrder, IsAround, ArePartsOf}
use Rattle.canon.specs.Opening.{IsOpening}
use Rattle.canon.specs.Part.{Keeps}
use Rattle.canon.specs.Writes.{Writes}
use Rattle.canon.proofs.AlikeLemmas.{appended_by}
use Rattle.canon.proofs.KeptLemmas.{kept, keeps_chain}
use Rattle.canon.proofs.OpeningLemmas.{opened_kept, around_closed}

-- by what follows from what was appended
pub written_by : {P Q : List ℕ → Type 0} {r : Result (Unit {0}) NoMemory} {old new : List ℕ} → Writes P r old new → ((b : List ℕ) → P b → Q b) → Writes Q r old new
written_by {P = P} {Q = Q} {r = r} {old = old} {new = new} h to = record { appended = appended_by r P Q old new to h.appended; kept = h.kept }

-- refused behind what stays
pub refused : {r : Result (Unit {0}) NoMemory} {P : List ℕ → Type 0} {old new : List ℕ} (G : NoMemory → Type 0) → IsErrAnd r G → Keeps old new → Writes P r old new
refused {r = Ok x} G h k = absurd h
refused {r = Err e} G h k = record { appended = tt; kept = k }

-- contents octets between an opening and what ends it
pub written_around : (r : Result (Unit {0}) NoMemory) (rule : Rule) (tag : Tag) (P Q : List ℕ → Type 0) (place : ℕ) (old one two new : List ℕ) → IsOpening tag true old one place → Appends P one two → ((b : List ℕ) → IsAround P rule tag b → Q b)
    → OnOk r ((of : Tag) (before opening inside : List ℕ) → IsOpening of true before opening place → two ≡ opening ++ inside → Appends (IsConstructed rule of inside) before new) → OnErr r (Keeps two new) → Writes Q r old new
written_around r rule tag P Q place old one two new h a f closed left = record {
  appended = around_closed r rule tag P Q place old one two new h a f closed;
  kept = kept r (Keeps two new) (Keeps old new) (keeps_chain old two new (keeps_chain old one two (opened_kept tag true old one place h) (a.0, a.1, tt))) left;
}

-- contents octets, of a type and a value that are known
pub put_as : {shape known : Shape} {v w : Val} {r : Result (Unit {0}) NoMemory} {old new : List ℕ} (rule : Rule) → shape ≡ known → v ≡ w → Writes (ArePartsOf rule known w) r old new → Writes (ArePartsOf rule shape v) r old new
put_as {r = r} {old = old} {new = new} rule is same h = subst₂ (λ (s : Shape) (u : Val). Writes (ArePartsOf rule s u) r old new) (sym is) (sym same) h

-- of one item there is nothing to order
pub few_in_order : (IsItem : Meaning) (values : List Val) (octets : List ℕ) → length values < 2 → AreItems IsItem values octets → AreItemsInOrder IsItem values octets
few_in_order IsItem values octets few h = record {
  encodings = h.encodings;
  each = h.each;
  order = h.encodings;
  permutes = IsPermutation-refl h.encodings;
  ascends = λ i j d before behind. absurd (omega (arith, before, behind, few, zip_length IsItem values h.encodings h.each));
  joined = h.joined;
}
