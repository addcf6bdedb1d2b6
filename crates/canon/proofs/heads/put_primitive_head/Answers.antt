use Rattle.std.proofs.Common.{◌≡◌, ◌∙◌, ◌∷◌, [], ◌++◌, sym, append-nil}
use Rattle.octets.specs.Front.{Appends}
use Rattle.octets.proofs.ResultLemmas.{OnOk-map}
use Rattle.canon.specs.Leaf.{IsPrimitiveHead}
use Rattle.canon.specs.Part.{Keeps}
use Rattle.canon.proofs.KeptLemmas.{kept}
use Rattle.canon.proofs.PrimitiveLemmas.{short_head}
use Rattle.canon.proofs.heads.put_primitive_head.Goals as goal

pub returns-then-contents-lt128 : goal.returns-then-contents-lt128
returns-then-contents-lt128 c =
    let first = c.leading_octet.result in
    let old = c.args.out.now.items in
    let new = c.put_pair.new.out.items in
    record {
      appended = OnOk-map c.put_pair.result (new ≡ old ++ first ∷ c.args.contents ∷ []) (Appends (IsPrimitiveHead c.args.tag c.args.contents) old new)
          (λ is. (first ∷ c.args.contents ∷ [], is, short_head c.args.tag c.args.contents first c.if-tag-lt31.true c.if-contents-lt128.true c.leading_octet.ensures))
          c.put_pair.ensures.appended;
      kept = kept c.put_pair.result (new ≡ old) (Keeps old new) (λ same. ([], same ∙ sym (append-nil old), tt)) c.put_pair.ensures.unchanged;
    }
