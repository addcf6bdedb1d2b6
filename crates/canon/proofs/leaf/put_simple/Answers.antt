use Rattle.std.specs.Int.{w128}
use Rattle.std.proofs.Common.{◌≡◌, ◌⊎◌, ◌∙◌, ℤ, false, to_z, of_z, subst, sym, ap}
use Rattle.std.proofs.lemmas.Int.{to_z-of_z}
use Rattle.octets.specs.Front.{Appends}
use Rattle.octets.specs.Rule.{der}
use Rattle.octets.proofs.ResultLemmas.{OnOk-map}
use Rattle.types.specs.declared.value.Value.{Value}
use Rattle.types.specs.declared.value.Value as value_is
use Rattle.types.specs.View.{value_view}
use Rattle.types.proofs.ViewLemmas.{value-Boolean}
use Rattle.canon.specs.Opening.{IsLengthPut}
use Rattle.canon.specs.Part.{Keeps}
use Rattle.canon.specs.Leaf.{IsNumberEncoding, IsSimple, IsSimplyEncoded}
use Rattle.canon.specs.Writes.{Writes}
use Rattle.canon.proofs.KeptLemmas.{kept, keeps_chain}
use Rattle.canon.proofs.OpeningLemmas.{opened_kept}
use Rattle.canon.proofs.SimpleLemmas.{simple_closed, number_encoded, number_fits, number_view}
use Rattle.canon.proofs.WritesLemmas.{written_by}
use Rattle.canon.proofs.leaf.put_simple.Goals as goal

-- of an INTEGER or ENUMERATED
number_same : (value : Value) (number : ℤ) → (value ≡ value_is.Integer number) ⊎ (value ≡ value_is.Enumerated number) → IsSimple (value_view value) → to_z w128 (of_z w128 number) ≡ number
number_same value number is simple = to_z-of_z w128 number (number_fits (value_view value) number (number_view value number is) simple)

pub returns-in-Boolean : goal.returns-in-Boolean
returns-in-Boolean c =
    subst (λ v. Writes (IsSimplyEncoded der c.args.tag v) c.put_truth.result c.args.out.now.items c.put_truth.new.out.items) (sym (ap value_view c.in-Boolean.is ∙ value-Boolean c.in-Boolean.truth)) c.put_truth.ensures

pub returns-in_ok-put_contents-in-WideInteger : goal.returns-in_ok-put_contents-in-WideInteger
returns-in_ok-put_contents-in-WideInteger c =
    let tag = c.args.tag in
    let v = value_view c.args.value.now in
    let place = c.in_ok-place-in-WideInteger.place in
    let old = c.args.out.now.items in
    let one = c.put_opening.new.out.items in
    let two = c.put_contents.new.out.items in
    let new = c.put_length.new.out.items in
    let opening = c.in_ok-place-in-WideInteger.ensures.opened in
    let contents = c.in_ok-put_contents-in-WideInteger.ensures.appended in
    record {
      appended = OnOk-map c.put_length.result (IsLengthPut place two new) (Appends (IsSimplyEncoded der tag v) old new) (simple_closed tag v place old one two new opening contents) c.put_length.ensures.put;
      kept = kept c.put_length.result (Keeps two new) (Keeps old new) (keeps_chain old two new (keeps_chain old one two (opened_kept tag false old one place opening) (contents.0, contents.1, tt))) c.put_length.ensures.kept;
    }

pub returns-in-Integer : goal.returns-in-Integer
returns-in-Integer c =
    let value = c.args.value.now in
    let number = c.in-Integer.number in
    written_by (subst (λ n. Writes (IsNumberEncoding c.args.tag n) c.put_number.result c.args.out.now.items c.put_number.new.out.items) (number_same value number c.in-Integer.is c.requires.simple) c.put_number.ensures)
    (λ b h. number_encoded c.args.tag (value_view value) number b (number_view value number c.in-Integer.is) h)
