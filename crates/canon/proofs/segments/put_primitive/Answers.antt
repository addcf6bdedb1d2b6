use Rattle.std.proofs.Common.{◌≡◌, ◌∙◌, refl}
use Rattle.canon.proofs.KeptLemmas.{keeps_more}
use Rattle.canon.proofs.PrimitiveLemmas.{primitive_put}
use Rattle.canon.proofs.WritesLemmas.{refused}
use Rattle.canon.proofs.segments.put_primitive.Goals as goal

pub returns : goal.returns
returns c = record {
  appended = primitive_put c.args.tag _ c.args.lead.now c.args.octets.now c.args.out.now.items c.put_primitive_head.new.out.items c.put_lead.new.out.items c.extend_from_slice.new.self.items
      c.in_ok-put_primitive_head.ensures.appended refl c.in_ok-put_lead.ensures.appended c.in_ok-extend_from_slice.ensures.items;
  kept = tt;
}

pub returns-in_err-put_lead : goal.returns-in_err-put_lead
returns-in_err-put_lead c =
    let a = c.in_ok-put_primitive_head.ensures.appended in
    refused _ c.from_residual-in_err-put_lead.ensures.1 (a.0, c.in_err-put_lead.ensures.unchanged ∙ a.1, tt)

pub returns-in_err-extend_from_slice : goal.returns-in_err-extend_from_slice
returns-in_err-extend_from_slice c =
    let old = c.args.out.now.items in
    let one = c.put_primitive_head.new.out.items in
    let two = c.put_lead.new.out.items in
    let new = c.extend_from_slice.new.self.items in
    let a = c.in_ok-put_primitive_head.ensures.appended in
    let same : new ≡ two = c.in_err-extend_from_slice.ensures.items in
    refused _ c.from_residual-in_err-extend_from_slice.ensures.1 (keeps_more old one new c.args.lead.now (a.0, a.1, tt) (same ∙ c.in_ok-put_lead.ensures.appended))
