-- Lemmas on heads that are written behind their contents octets, turned round.
use Rattle.std.proofs.Common.{◌≡◌, ◌∙◌, ◌+◌, ◌-◌, ℕ, List, [], ◌++◌, length, take, drop, reverse, sym, ap, ap₂, subst, arith, append_assoc, append-nil, length-append}
use Rattle.std.proofs.lemmas.List.{reverse-append, length-reverse}
use Rattle.octets.specs.declared.tag.Tag.{Tag}
use Rattle.octets.specs.Front.{Appends}
use Rattle.octets.specs.Length.{IsShortestLength}
use Rattle.octets.specs.Rule.{der}
use Rattle.types.specs.Encoding.{IsEncoding}
use Rattle.types.specs.Shape.{Shape, Val}
use Rattle.canon.specs.Turned.{IsTurnedHead, IsTurned}
use Rattle.canon.proofs.NodeLemmas.{explicit_alike}
use Rattle.canon.proofs.PartLemmas.{take_front, drop_front}

-- without a head
pub none_turned : (IsThis : List ℕ → Type 0) (old new : List ℕ) (from : ℕ) → Appends IsThis old new → from ≡ length new → IsTurned IsThis old new from
none_turned IsThis old new from a at = record {
  contents = a.0;
  turned = [];
  whole = a.2;
  is = a.1 ∙ ap (λ s. old ++ s) (sym (append-nil a.0));
  at = at ∙ ap length a.1 ∙ length-append old a.0;
}

-- one more head, around what stands
pub turned_more : (tag : Tag) (type : Shape) (v : Val) (n from : ℕ) (old mid new : List ℕ) → IsTurned (IsEncoding der type v) old mid from → Appends (IsTurnedHead tag n) mid new → n ≡ length mid - length old → IsTurned (IsEncoding der (Shape.explicit tag type) v) old new from
turned_more tag type v n from old mid new h b count =
    let head = b.2 in
    let before = reverse h.turned in
    let inside = before ++ h.contents in
    let all : n ≡ length inside =
    omega (arith, count, ap length h.is, length-append old (h.contents ++ h.turned), length-append h.contents h.turned, length-append before h.contents, length-reverse h.turned) in
    let joined : reverse (h.turned ++ b.0) ++ h.contents ≡ head.identifier ++ (head.size ++ inside) =
    ap (λ s. s ++ h.contents) (reverse-append h.turned b.0 ∙ ap (λ s. s ++ before) head.is) ∙ append_assoc (head.identifier ++ head.size) before h.contents ∙ append_assoc head.identifier head.size inside in
    record {
      contents = h.contents;
      turned = h.turned ++ b.0;
      whole = (explicit_alike der tag type v).to _ record {
        contents = inside;
        inside = h.whole;
        whole = record { identifier = head.identifier; size = head.size; tagged = head.tagged; sized = subst (λ k. IsShortestLength k head.size) all head.sized; joined = joined };
      };
      is = b.1 ∙ ap (λ s. s ++ b.0) h.is ∙ append_assoc old (h.contents ++ h.turned) b.0 ∙ ap (λ s. old ++ s) (append_assoc h.contents h.turned b.0);
      at = h.at;
    }

-- what stands from there on, turned round
pub turned_behind : (before contents turned old new : List ℕ) (start from : ℕ) → length before ≡ start → start + length contents ≡ from → old ≡ before ++ (contents ++ turned) → new ≡ take from old ++ reverse (drop from old) → new ≡ before ++ (contents ++ reverse turned)
turned_behind before contents turned old new start from front behind is turn =
    let ahead = before ++ contents in
    let split : old ≡ ahead ++ turned = is ∙ sym (append_assoc before contents turned) in
    let at : from ≡ length ahead = omega (arith, front, behind, length-append before contents) in
    turn ∙ ap₂ (λ a b. a ++ reverse b) (ap (take from) split ∙ take_front ahead turned from at) (ap (drop from) split ∙ drop_front ahead turned from at) ∙ append_assoc before contents (reverse turned)
