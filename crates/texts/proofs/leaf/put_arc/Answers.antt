use Rattle.std.proofs.Common.{arith, ◌∙◌, ◌++◌, ap, sym, string_bytes}
use Rattle.std.proofs.lemmas.Fmt.{decimal_digit}
use Rattle.texts.proofs.leaf.put_arc.Goals as goal

pub returns-then-arc-lt10 : goal.returns-then-arc-lt10
returns-then-arc-lt10 c = c.in_ok-push.ensures.bytes ∙ ap (λ digit. string_bytes c.args.out.now ++ digit) (c.in_ok-push.ensures.ascii (omega arith) ∙ sym (decimal_digit c.args.arc (omega arith)))
