use Rattle.std.proofs.Common.{◌≡◌, ◌++◌, ◌≤◌, ◌∙◌, length, sym, ap, subst, arith, append_assoc, length-append}
use Rattle.octets.specs.Front.{Appends}
use Rattle.octets.specs.Rule.{cer}
use Rattle.types.specs.Form.{IsPrimitive}
use Rattle.canon.specs.Part.{Keeps}
use Rattle.canon.specs.Segments.{AreSegmentsOf}
use Rattle.canon.proofs.KeptLemmas.{kept, keeps_chain}
use Rattle.octets.proofs.ResultLemmas.{OnOk-map}
use Rattle.canon.proofs.segments.append_segments.Goals as goal

pub loop-rest-preserved : goal.loop-rest-preserved
loop-rest-preserved c =
    let cut = c.split_at.ensures in
    let before = c.split_at.result.0.now in
    let after = c.split_at.result.1.now in
    let old = c.args.out.now.items in
    let done = c.loop-rest.invariant.written in
    let put = c.in_ok-put_primitive.ensures.appended in
    let out : c.put_primitive.new.out.items ≡ old ++ (done.0 ++ put.0) = put.1 ∙ (ap (λ x. x ++ put.0) done.1 ∙ append_assoc old done.0 put.0) in
    let full : length (c.args.whole.now ++ before) ≡ 1000 = omega (arith, length-append c.args.whole.now before, cut.front_len, c.requires.leads.alike, c.requires.leads.few) in
    record {
      some = omega (arith, cut.back_len, c.loop-rest-test.true);
      written = (
        done.0 ++ put.0,
        out,
        λ tail more.
            let both = AreSegmentsOf.more before put.0 full put.2 more in
            let rest : AreSegmentsOf c.args.segment c.args.whole.now c.args.lead.now c.loop-rest.rest.now (put.0 ++ tail) = subst (λ s. AreSegmentsOf c.args.segment c.args.whole.now c.args.lead.now s (put.0 ++ tail)) (sym cut.by_index.0) both in
            subst (AreSegmentsOf c.args.segment c.args.whole.now c.args.lead.now c.args.octets.now) (sym (append_assoc done.0 put.0 tail)) (done.2 (put.0 ++ tail) rest),
      );
    }

pub returns : goal.returns
returns c =
    let rest = c.loop-rest.rest.now in
    let old = c.args.out.now.items in
    let mid = c.loop-rest.out.items in
    let new = c.put_primitive-2.new.out.items in
    let done = c.loop-rest.invariant.written in
    let few : length (c.args.lead.now ++ rest) ≤ 1000 = omega (arith, length-append c.args.lead.now rest, c.loop-rest-test.false, c.requires.leads.few) in
    record {
      appended = OnOk-map c.put_primitive-2.result (Appends (IsPrimitive cer c.args.segment (c.args.lead.now ++ rest)) mid new) (Appends (AreSegmentsOf c.args.segment c.args.whole.now c.args.lead.now c.args.octets.now) old new)
          (λ h. (
            done.0 ++ h.0,
            h.1 ∙ (ap (λ x. x ++ h.0) done.1 ∙ append_assoc old done.0 h.0),
            done.2 h.0 (AreSegmentsOf.last rest h.0 c.loop-rest.invariant.some few h.2),
          ))
          c.put_primitive-2.ensures.appended;
      kept = kept c.put_primitive-2.result (Keeps mid new) (Keeps old new) (keeps_chain old mid new (done.0, done.1, tt)) c.put_primitive-2.ensures.kept;
    }
