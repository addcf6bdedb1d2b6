use Rattle.std.proofs.Common.{◌≡◌, ◌∙◌, ◌++◌, [], sym, ap, take, append-nil, arith}
use Rattle.canon.specs.Span.{part_of}
use Rattle.canon.proofs.KeptLemmas.{always_kept, keeps_front}
use Rattle.canon.proofs.PartLemmas.{joined_more}
use Rattle.canon.proofs.spans.join_again.Goals as goal

pub loop-one-preserved : goal.loop-one-preserved
loop-one-preserved g c =
    let buffer = c.args.out.now.items in
    let i = c.loop-one.one-index in
    let p = c.one-item.result in
    let moved = c.loop-one.moved.items in
    let same : part_of c.deref.result.now p.span ≡ part_of buffer p.span = ap (λ b. part_of b p.span) c.deref.ensures.value in
    let more : c.put_part.new.moved.items ≡ moved ++ part_of buffer p.span = c.in_ok-put_part.ensures.appended ∙ ap (λ b. moved ++ b) same in
    joined_more buffer c.args.parts.now i p moved c.put_part.new.moved.items (omega arith) c.one-item.is more c.loop-one.invariant

pub returns-in_err-reserve-clause-kept : goal.returns-in_err-reserve-clause-kept
returns-in_err-reserve-clause-kept g c = always_kept c.from_residual.result _ (keeps_front c.args.from c.args.out.now.items)

pub returns-in_err-put_part-clause-kept : goal.returns-in_err-put_part-clause-kept
returns-in_err-put_part-clause-kept g c = always_kept c.from_residual-in_err-put_part.result _ (keeps_front c.args.from c.args.out.now.items)

pub returns-in_err-extend_from_slice-clause-kept : goal.returns-in_err-extend_from_slice-clause-kept
returns-in_err-extend_from_slice-clause-kept g c =
    always_kept c.from_residual-in_err-extend_from_slice.result _ ([], c.in_err-extend_from_slice.ensures.items ∙ c.truncate.ensures.items ∙ sym (append-nil (take c.args.from c.args.out.now.items)), tt)
