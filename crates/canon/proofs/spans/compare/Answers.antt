use Rattle.canon.proofs.KeyLemmas.{compared_same}
use Rattle.canon.proofs.spans.compare.Goals as goal

pub returns-then-is_all_key-2 : goal.returns-then-is_all_key-2
returns-then-is_all_key-2 c = compared_same c.args.buffer.now c.args.a c.args.b c.if-a-b.false (c.is_all_key.ensures.0 c.if-is_all_key.true) (c.is_all_key-then-is_all_key.ensures.0 c.if-is_all_key-2.true)
