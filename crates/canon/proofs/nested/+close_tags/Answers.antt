use Rattle.std.proofs.Common.{arith}
use Rattle.octets.specs.Rule.{rule_of}
use Rattle.canon.proofs.KeptLemmas.{keeps_chain}
use Rattle.canon.proofs.NestedLemmas.{all_closed, inside_keeps, last_of_inside, one_closed}
use Rattle.canon.proofs.WritesLemmas.{refused}
use Rattle.canon.proofs.nested.+close_tags.Goals as goal

pub returns-then-end-start : goal.returns-then-end-start
returns-then-end-start t c = λ outer v old h. record { appended = all_closed (rule_of c.args.rule) outer v c.args.start c.args.end old c.args.out.now.items c.if-end-start.true h; kept = tt }

pub returns-in_err-put_closing : goal.returns-in_err-put_closing
returns-in_err-put_closing t c = λ outer v old h.
    refused _ c.from_residual.ensures.1 (keeps_chain old c.args.out.now.items c.put_closing.new.out.items (inside_keeps (rule_of c.args.rule) outer v c.args.start c.args.end old c.args.out.now.items h) c.in_err-put_closing.ensures.kept)

pub overflow_sub-end-2 : goal.overflow_sub-end-2
overflow_sub-end-2 t c =
    let h = c.requires in
    let last = last_of_inside (rule_of c.args.rule) h.0 h.1 c.args.start c.args.end h.2 c.args.out.now.items (omega (arith, c.if-end-start.false)) h.3 in
    omega (arith, last.two)

pub close_tags-requires : goal.close_tags-requires
close_tags-requires t c =
    let h = c.requires in
    let rule = rule_of c.args.rule in
    let last = last_of_inside rule h.0 h.1 c.args.start c.args.end h.2 c.args.out.now.items (omega (arith, c.if-end-start.false)) h.3 in
    (omega (arith, c.decreases, last.two), (h.0, h.1, h.2, one_closed rule h.0 h.1 c.args.start c.args.end h.2 c.args.out.now.items c.put_closing.new.out.items last c.in_ok-put_closing.ensures.closed))

pub returns : goal.returns
returns t c = λ outer v old h.
    let rule = rule_of c.args.rule in
    let buffer = c.args.out.now.items in
    let last = last_of_inside rule outer v c.args.start c.args.end old buffer (omega (arith, c.if-end-start.false)) h in
    c.close_tags.ensures outer v old (one_closed rule outer v c.args.start c.args.end old buffer c.put_closing.new.out.items last c.in_ok-put_closing.ensures.closed)
