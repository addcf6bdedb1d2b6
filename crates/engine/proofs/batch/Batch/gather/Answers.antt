use Rattle.std.proofs.Common.{rules, ◌≡◌, ◌++◌, [], length, take, refl, ap, ◌∙◌, arith, length-drop}
use Rattle.std.proofs.lemmas.List.{take_rest}
use Rattle.octets.proofs.ResultLemmas.{IfErr-from}
use Rattle.engine.specs.AnyReader.{read_rule, StandsBy}
use Rattle.engine.proofs.PassingLemmas.{gathers_none}
use Rattle.engine.proofs.FeedingLemmas.{accepted_conforms, add_refused, fed_none, fed_some, feed_refused, gathered_all, none_begun}
use Rattle.engine.proofs.BatchLemmas.{awaits_completed, gathered_behind, gathered_front, gathered_whole, left_further, left_whole}
use Rattle.engine.proofs.batch.Batch.gather.Goals as goal

pub loop-rest-init : goal.loop-rest-init
loop-rest-init g c = record {
  copies = refl;
  same_rule = refl;
  gathers = λ old unfinished. (old, unfinished, gathers_none (read_rule c.args.reader.now) (g.P.Put.shape c.args.writer.now) (g.P.Put.stands c.args.writer.now) (old ++ c.args.piece.now) _ _ c.clear.ensures.items c.clear-2.ensures.items);
  joined = left_whole c.args.piece.now;
  few = omega (arith, ap length c.clear-2.ensures.items);
}

pub returns-in_err-used-clause-refused : goal.returns-in_err-used-clause-refused
returns-in_err-used-clause-refused g c = IfErr-from c.from_residual.result _ _ c.from_residual.ensures.1 (λ refusal same old unfinished.
    let rule = read_rule c.args.reader.now in
    let shape = g.P.Put.shape c.args.writer.now in
    let Stands = g.P.Put.stands c.args.writer.now in
    let i = c.loop-rest.invariant.gathers old unfinished in
    let f = (rw c.loop-rest.invariant.same_rule at c.in_err-used.ensures.fed) shape i.0 i.1.stands in
    rw same (feed_refused rule shape Stands c.in_err-used.field-0.0 _ _ _ i.0 c.loop-rest.rest.now (search rules) f.0 f.1 i.2))

pub feed-requires : goal.feed-requires
feed-requires g c =
    let i = c.loop-rest.invariant.gathers c.requires.stands.0 c.requires.stands.1 in
    (g.P.Put.shape c.args.writer.now, i.0, i.1.stands)

pub returns-then-is_none-clause-gathered : goal.returns-then-is_none-clause-gathered
returns-then-is_none-clause-gathered g c = λ old unfinished.
    let rule = read_rule c.args.reader.now in
    let shape = g.P.Put.shape c.args.writer.now in
    let i = c.loop-rest.invariant.gathers old unfinished in
    gathered_whole _ rule shape (g.P.Put.stands c.args.writer.now) old c.args.piece.now _ _
    (record { rest = i.0 ++ c.loop-rest.rest.now; gathers = i.2; stands = fed_none _ _ rule shape _ _ i.0 c.loop-rest.rest.now c.loop-rest.invariant.same_rule c.if-is_none.ensures (c.in_ok-used.ensures.fed shape i.0 i.1.stands) })

pub add_read-requires-clause-conforms : goal.add_read-requires-clause-conforms
add_read-requires-clause-conforms g c =
    let rule = read_rule c.args.reader.now in
    let shape = g.P.Put.shape c.args.writer.now in
    let left = c.loop-rest.rest.now in
    let i = c.loop-rest.invariant.gathers c.requires.stands.0 c.requires.stands.1 in
    let completed = fed_some (StandsBy shape c.feed.new.self) _ rule shape _ _ i.0 left c.loop-rest.invariant.same_rule c.if-is_none.ensures (c.in_ok-used.ensures.fed shape i.0 i.1.stands) in
    accepted_conforms rule shape _ (i.0 ++ take c.in_ok-used.used left) completed.accepted

pub returns-in_err-added-clause-refused : goal.returns-in_err-added-clause-refused
returns-in_err-added-clause-refused g c = IfErr-from c.from_residual-in_err-added.result _ _ c.from_residual-in_err-added.ensures.1 (λ refusal same old unfinished.
    let rule = read_rule c.args.reader.now in
    let shape = g.P.Put.shape c.args.writer.now in
    let Stands = g.P.Put.stands c.args.writer.now in
    let left = c.loop-rest.rest.now in
    let i = c.loop-rest.invariant.gathers old unfinished in
    let completed = fed_some (StandsBy shape c.feed.new.self) _ rule shape _ _ i.0 left c.loop-rest.invariant.same_rule c.if-is_none.ensures (c.in_ok-used.ensures.fed shape i.0 i.1.stands) in
    let refused = rw (c.in_ok-used.ensures.rule_stays ∙ c.loop-rest.invariant.same_rule) at c.in_err-added.ensures.refused in
    rw same (add_refused rule shape Stands _ c.in_err-added.field-0.0 _ _ refused.rest _ _ refused.refused
    (refused.gathered _ (awaits_completed _ rule shape Stands _ _ i.0 left _ _ _ _ c.split_at.ensures.back completed i.2))))

pub returns-then-is_full-clause-gathered : goal.returns-then-is_full-clause-gathered
returns-then-is_full-clause-gathered g c = λ old unfinished.
    let rule = read_rule c.args.reader.now in
    let shape = g.P.Put.shape c.args.writer.now in
    let Stands = g.P.Put.stands c.args.writer.now in
    let left = c.loop-rest.rest.now in
    let behind = c.split_at.result.1.now in
    let used = c.in_ok-used.used in
    let added = c.in_ok-added.added in
    let i = c.loop-rest.invariant.gathers old unfinished in
    let completed = fed_some (StandsBy shape c.feed.new.self) _ rule shape _ _ i.0 left c.loop-rest.invariant.same_rule c.if-is_none.ensures (c.in_ok-used.ensures.fed shape i.0 i.1.stands) in
    let are_added = rw (c.in_ok-used.ensures.rule_stays ∙ c.loop-rest.invariant.same_rule) at c.in_ok-added.ensures.added in
    let rest_is = take_rest behind added in
    let behind_is = left_further c.args.piece.now left behind used c.loop-rest.invariant.joined (omega (arith, c.loop-rest.invariant.few)) completed.there c.split_at.ensures.back in
    gathered_front _ rule shape Stands old c.args.piece.now _ _ [] _ _
    (left_further c.args.piece.now behind _ added behind_is (omega (arith, c.loop-rest.invariant.few, completed.there, ap length c.split_at.ensures.back, length-drop used left)) are_added.there rest_is)
    (record { stands = completed.fresh; none = none_begun rule shape })
    (gathered_behind _ rule shape Stands _ _ i.0 left behind _ _ _ _ _ used added c.split_at.ensures.back rest_is completed i.2 are_added)

pub loop-rest-preserved : goal.loop-rest-preserved
loop-rest-preserved g c =
    let rule = read_rule c.args.reader.now in
    let shape = g.P.Put.shape c.args.writer.now in
    let Stands = g.P.Put.stands c.args.writer.now in
    let left = c.loop-rest.rest.now in
    let behind = c.split_at.result.1.now in
    let used = c.in_ok-used.used in
    let added = c.in_ok-added.added in
    let here = c.loop-rest.invariant.gathers c.requires.stands.0 c.requires.stands.1 in
    let done = fed_some (StandsBy shape c.feed.new.self) _ rule shape _ _ here.0 left c.loop-rest.invariant.same_rule c.if-is_none.ensures (c.in_ok-used.ensures.fed shape here.0 here.1.stands) in
    let are_added = rw (c.in_ok-used.ensures.rule_stays ∙ c.loop-rest.invariant.same_rule) at c.in_ok-added.ensures.added in
    let rest_is = take_rest behind added in
    let behind_is = left_further c.args.piece.now left behind used c.loop-rest.invariant.joined (omega (arith, c.loop-rest.invariant.few)) done.there c.split_at.ensures.back in
    let size = length-drop used left in
    record {
      copies = c.in_ok-added.ensures.copies ∙ c.loop-rest.invariant.copies;
      same_rule = c.in_ok-used.ensures.rule_stays ∙ c.loop-rest.invariant.same_rule;
      gathers = λ old unfinished.
          let i = c.loop-rest.invariant.gathers old unfinished in
          let completed = fed_some (StandsBy shape c.feed.new.self) _ rule shape _ _ i.0 left c.loop-rest.invariant.same_rule c.if-is_none.ensures (c.in_ok-used.ensures.fed shape i.0 i.1.stands) in (
            [],
            record { stands = completed.fresh; none = none_begun rule shape },
            gathered_behind _ rule shape Stands _ _ i.0 left behind _ _ _ _ _ used added c.split_at.ensures.back rest_is completed i.2 are_added,
          );
      joined = left_further c.args.piece.now behind _ added behind_is (omega (arith, c.loop-rest.invariant.few, done.there, ap length c.split_at.ensures.back, size)) are_added.there rest_is;
      few = omega (arith, c.loop-rest.invariant.few, done.some, done.there, ap length c.split_at.ensures.back, size, are_added.few, are_added.there, ap length rest_is, length-drop added behind);
    }

pub returns-clause-gathered : goal.returns-clause-gathered
returns-clause-gathered g c = λ old unfinished.
    let i = c.loop-rest.invariant.gathers old unfinished in
    let none : length c.loop-rest.rest.now ≡ 0 = search rules in
    let rule = read_rule c.args.reader.now in
    let shape = g.P.Put.shape c.args.writer.now in
    let Stands = g.P.Put.stands c.args.writer.now in
    gathered_whole _ rule shape Stands old c.args.piece.now _ _ (gathered_all _ rule shape Stands _ _ _ i.0 c.loop-rest.rest.now none i.1 i.2)
