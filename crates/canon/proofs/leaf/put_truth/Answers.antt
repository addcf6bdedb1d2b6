use Rattle.std.proofs.Common.{◌≡◌, ◌∙◌, ◌∷◌, [], ◌++◌, ℕ, Bool, List, refl, sym, subst₂, arith, append_assoc, append-nil}
use Rattle.octets.specs.Front.{Appends}
use Rattle.octets.specs.Rule.{der}
use Rattle.octets.proofs.ResultLemmas.{OnOk-map}
use Rattle.primitives.specs.Boolean.{IsCanonicalBoolean}
use Rattle.types.specs.Shape.{SimpleValue, Val}
use Rattle.canon.specs.Leaf.{IsSimplyEncoded}
use Rattle.canon.specs.Part.{Keeps}
use Rattle.canon.proofs.KeptLemmas.{kept}
use Rattle.canon.proofs.PrimitiveLemmas.{short_head}
use Rattle.canon.proofs.SimpleLemmas.{simple_made, boolean_counts, boolean_contents}
use Rattle.canon.proofs.leaf.put_truth.Goals.{then-truth, else-truth}
use Rattle.canon.proofs.leaf.put_truth.Goals as goal

pub returns-then-tag-lt31 : goal.returns-then-tag-lt31
returns-then-tag-lt31 c =
    let tag = c.args.tag in
    let truth = c.args.truth in
    let v = Val.simple (SimpleValue.boolean truth) in
    let first : ℕ = c.leading_octet.result in
    let octet : ℕ = c.if-truth.octet in
    let old : List ℕ = c.args.out.now.items in
    let new : List ℕ = c.put_three.new.out.items in
    let head : List ℕ = first ∷ 1 ∷ [] in
    let spelt : IsCanonicalBoolean truth (octet ∷ []) = elim c.if-truth.branch [
      | then-truth w ↦ subst₂ (λ (t : Bool) (o : ℕ). IsCanonicalBoolean t (o ∷ [])) (sym w.if-truth.true) (sym w.octet-is) (refl, refl)
      | else-truth w ↦ subst₂ (λ (t : Bool) (o : ℕ). IsCanonicalBoolean t (o ∷ [])) (sym w.if-truth.false) (sym w.octet-is) (refl, refl)
    ] in
    record {
      appended = OnOk-map c.put_three.result (new ≡ old ++ first ∷ 1 ∷ octet ∷ []) (Appends (IsSimplyEncoded der tag v) old new)
          (λ is. simple_made tag v 1 old (old ++ head) new (head, refl, short_head tag 1 first c.if-tag-lt31.true (omega arith) c.leading_octet.ensures)
          (boolean_contents truth (old ++ head) new (octet ∷ [], is ∙ sym (append_assoc old head (octet ∷ [])), spelt)) (boolean_counts truth))
          c.put_three.ensures.appended;
      kept = kept c.put_three.result (new ≡ old) (Keeps old new) (λ same. ([], same ∙ sym (append-nil old), tt)) c.put_three.ensures.unchanged;
    }

pub returns : goal.returns
returns c =
    let tag = c.args.tag in
    let truth = c.args.truth in
    let v = Val.simple (SimpleValue.boolean truth) in
    let old : List ℕ = c.args.out.now.items in
    let mid : List ℕ = c.put_primitive_head.new.out.items in
    let new : List ℕ = c.put_boolean.new.out.items in
    let head = c.in_ok-put_primitive_head.ensures.appended in
    record {
      appended = OnOk-map c.put_boolean.result (Appends (IsCanonicalBoolean truth) mid new) (Appends (IsSimplyEncoded der tag v) old new)
          (λ put. simple_made tag v 1 old mid new head (boolean_contents truth mid new put) (boolean_counts truth)) c.put_boolean.ensures.appended;
      kept = kept c.put_boolean.result (new ≡ mid) (Keeps old new) (λ same. (head.0, same ∙ head.1, tt)) c.put_boolean.ensures.unchanged;
    }
