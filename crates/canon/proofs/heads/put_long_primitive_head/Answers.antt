use Rattle.std.proofs.Common.{◌≡◌, ◌∙◌, ◌++◌, refl, ap, append_assoc, arith}
use Rattle.octets.specs.Front.{Appends}
use Rattle.octets.specs.Length.{IsShortestLength}
use Rattle.octets.proofs.ResultLemmas.{OnOk-map}
use Rattle.canon.specs.Leaf.{IsPrimitiveHead}
use Rattle.canon.specs.Part.{Keeps}
use Rattle.canon.proofs.KeptLemmas.{kept}
use Rattle.canon.proofs.WordLemmas.{put_spelt}
use Rattle.canon.proofs.heads.put_long_primitive_head.Goals as goal

pub put_few-requires : goal.put_few-requires
put_few-requires c = omega (arith, c.high_head.ensures.few)

pub returns-then-contents-lt128 : goal.returns-then-contents-lt128
returns-then-contents-lt128 c =
    put_spelt (IsPrimitiveHead c.args.tag c.args.contents) c.put_few.result c.high_head.result c.args.out.now.items c.put_few.new.out.items c.high_head.ensures.head c.put_few.ensures.appended c.put_few.ensures.unchanged

pub returns : goal.returns
returns c =
    let old = c.args.out.now.items in
    let one = c.put_identifier.new.out.items in
    let new = c.put_shortest_length.new.out.items in
    let a = c.in_ok-put_identifier.ensures.appended in
    record {
      appended = OnOk-map c.put_shortest_length.result (Appends (IsShortestLength c.args.contents) one new) (Appends (IsPrimitiveHead c.args.tag c.args.contents) old new)
          (λ b. (a.0 ++ b.0, b.1 ∙ ap (λ s. s ++ b.0) a.1 ∙ append_assoc old a.0 b.0, record { identifier = a.0; size = b.0; tagged = a.2; sized = b.2; joined = refl }))
          c.put_shortest_length.ensures.appended;
      kept = kept c.put_shortest_length.result (new ≡ one) (Keeps old new) (λ same. (a.0, same ∙ a.1, tt)) c.put_shortest_length.ensures.unchanged;
    }
