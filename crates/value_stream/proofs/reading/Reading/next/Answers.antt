use Rattle.std.proofs.Common.{rules, ◌≡◌, ◌<◌, Ok, Err, length, drop, refl, ap, ◌∙◌, sym, subst, arith, length-drop}
use Rattle.octets.proofs.ResultLemmas.{Err-same}
use Rattle.types.specs.View.{ty_view, value_view}
use Rattle.engine.specs.AnyReader.{read_rule, StandsBy}
use Rattle.engine.specs.Refusal.{IsOfChecking}
use Rattle.engine.specs.Stream.{source_failures}
use Rattle.value_stream.proofs.NextLemmas.{begins, begun_still, begins_more, next_is, refused_piece, not_filled, ended_before, ends_within, read_on, read_all}
use Rattle.value_stream.proofs.reading.Reading.next.Goals as goal

pub loop-self-init : goal.loop-self-init
loop-self-init g c = record {
  type = refl;
  same_rule = refl;
  begun = begins (StandsBy (ty_view c.args.self.now.ty.now) c.args.self.now.reader) _ _ _ _ c.requires.fresh;
  source = c.requires.source;
  within = c.requires.within;
}

pub returns-in_err-finish-clause-stopped : goal.returns-in_err-finish-clause-stopped
returns-in_err-finish-clause-stopped g c =
    let shape = ty_view c.args.self.now.ty.now in
    let begun = begun_still shape _ c.loop-self.self.reader c.fill.new.self.reader _ _ c.fill.new.self.read _ _ _ c.loop-self.invariant.begun c.fill.ensures.kept (ap (λ r. r.reader) c.fill.ensures.stays) (ap (λ r. r.read) c.fill.ensures.stays) in
    rw (Err-same c.from_residual-in_err-finish.result _ c.from_residual-in_err-finish.ensures.1) (ends_within (StandsBy shape c.fill.new.self.reader) _ shape _ _ _ _ _ begun (c.in_ok-fill.ensures.end (ap Ok c.if-not-branch.true)) (λ octets stands. c.in_err-finish.ensures shape octets stands))

pub returns-in_err-fill-clause-stopped : goal.returns-in_err-fill-clause-stopped
returns-in_err-fill-clause-stopped g c =
    let shape = ty_view c.args.self.now.ty.now in
    let begun = begun_still shape _ c.loop-self.self.reader c.fill.new.self.reader _ _ c.fill.new.self.read _ _ _ c.loop-self.invariant.begun c.fill.ensures.kept (ap (λ r. r.reader) c.fill.ensures.stays) (ap (λ r. r.read) c.fill.ensures.stays) in
    rw (Err-same c.from_residual.result _ c.from_residual.ensures.1) (not_filled (StandsBy shape c.fill.new.self.reader) _ shape _ _ _ c.fill.new.self.at _ c.fill.new.self.piece (g.S.Source.left c.fill.new.self.source) begun c.in_err-fill.ensures.numbers (λ long. c.in_err-fill.ensures.long (ap Err long)))

pub loop-self-preserved : goal.loop-self-preserved
loop-self-preserved g c =
    let shape = ty_view c.args.self.now.ty.now in
    let f = c.fill.new.self in
    let rest = c.split_at.result.1.now in
    let begun = begun_still shape _ c.loop-self.self.reader f.reader _ _ f.read _ _ _ c.loop-self.invariant.begun c.fill.ensures.kept (ap (λ r. r.reader) c.fill.ensures.stays) (ap (λ r. r.read) c.fill.ensures.stays) in
    let same = ap (λ r. read_rule r.reader) c.fill.ensures.stays ∙ c.loop-self.invariant.same_rule in
    let fed = rw same at (rw c.in-None.is at c.in_ok-used.ensures.fed) in
    let rest_is : rest ≡ drop f.at f.piece = c.split_at.ensures.back ∙ ap (λ x. drop f.at x) c.octets.ensures in
    let taken = read_all f.at _ f.piece f.piece rest (g.S.Source.left f.source) (g.S.Source.left f.source) rest_is refl refl refl in
    let more = begins_more (StandsBy shape f.reader) (StandsBy shape c.feed.new.self) _ shape _ _ _ _ _ _ rest begun taken refl (λ octets stands. fed shape octets stands) in
    record {
      type = ap (λ r. r.ty) c.fill.ensures.stays ∙ c.loop-self.invariant.type;
      same_rule = c.in_ok-used.ensures.rule_stays ∙ same;
      begun = more;
      source = c.in_ok-fill.ensures.source;
      within = search rules;
    }

pub returns-in-Some-clause-value : goal.returns-in-Some-clause-value
returns-in-Some-clause-value g c =
    let shape = ty_view c.args.self.now.ty.now in
    let f = c.fill.new.self in
    let rest = c.split_at.result.1.now in
    let begun = begun_still shape _ c.loop-self.self.reader f.reader _ _ f.read _ _ _ c.loop-self.invariant.begun c.fill.ensures.kept (ap (λ r. r.reader) c.fill.ensures.stays) (ap (λ r. r.read) c.fill.ensures.stays) in
    let same = ap (λ r. read_rule r.reader) c.fill.ensures.stays ∙ c.loop-self.invariant.same_rule in
    let fed = rw same at (rw c.in-Some.is at c.in_ok-used.ensures.fed) in
    let rest_is : rest ≡ drop f.at f.piece = c.split_at.ensures.back ∙ ap (λ x. drop f.at x) c.octets.ensures in
    let taken = read_on f.at c.in_ok-used.used _ f.piece f.piece rest (g.S.Source.left f.source) (g.S.Source.left f.source) rest_is refl refl refl in
    next_is (StandsBy shape f.reader) _ shape (value_view c.in-Some.value) _ _ _ c.in_ok-used.used _ _ _ rest begun taken refl (λ octets stands. (fed shape octets stands).0)

pub returns-in_err-used-clause-stopped : goal.returns-in_err-used-clause-stopped
returns-in_err-used-clause-stopped g c =
    let shape = ty_view c.args.self.now.ty.now in
    let f = c.fill.new.self in
    let rest = c.split_at.result.1.now in
    let begun = begun_still shape _ c.loop-self.self.reader f.reader _ _ f.read _ _ _ c.loop-self.invariant.begun c.fill.ensures.kept (ap (λ r. r.reader) c.fill.ensures.stays) (ap (λ r. r.read) c.fill.ensures.stays) in
    let same = ap (λ r. read_rule r.reader) c.fill.ensures.stays ∙ c.loop-self.invariant.same_rule in
    let fed = rw same at c.in_err-used.ensures.fed in
    let rest_is : rest ≡ drop f.at f.piece = c.split_at.ensures.back ∙ ap (λ x. drop f.at x) c.octets.ensures in
    let some : 0 < length rest = omega (arith, ap length rest_is, length-drop f.at f.piece, c.in_ok-fill.ensures.some (ap Ok c.if-not-branch.false)) in
    let taken = read_all f.at _ f.piece f.piece rest (g.S.Source.left f.source) (g.S.Source.left f.source) rest_is refl refl refl in
    rw (Err-same c.from_residual-in_err-used.result _ c.from_residual-in_err-used.ensures.1) (refused_piece (StandsBy shape f.reader) _ shape _ _ _ _ _ _ rest some begun taken (λ octets stands. fed shape octets stands))

pub returns-then-not-branch-clause-end : goal.returns-then-not-branch-clause-end
returns-then-not-branch-clause-end g c = λ _.
    let shape = ty_view c.args.self.now.ty.now in
    let begun = begun_still shape _ c.loop-self.self.reader c.fill.new.self.reader _ _ c.fill.new.self.read _ _ _ c.loop-self.invariant.begun c.fill.ensures.kept (ap (λ r. r.reader) c.fill.ensures.stays) (ap (λ r. r.read) c.fill.ensures.stays) in
    let end = c.in_ok-fill.ensures.end (ap Ok c.if-not-branch.true) in
    (ended_before _ _ begun.octets (c.in_ok-finish.ensures shape begun.octets begun.unfinished.stands) begun.taken end, end)

pub returns-in_err-finish-clause-source : goal.returns-in_err-finish-clause-source
returns-in_err-finish-clause-source g c =
    let shape = ty_view c.args.self.now.ty.now in
    let begun = begun_still shape _ c.loop-self.self.reader c.fill.new.self.reader _ _ c.fill.new.self.read _ _ _ c.loop-self.invariant.begun c.fill.ensures.kept (ap (λ r. r.reader) c.fill.ensures.stays) (ap (λ r. r.read) c.fill.ensures.stays) in
    rw (Err-same c.from_residual-in_err-finish.result _ c.from_residual-in_err-finish.ensures.1) (c.in_ok-fill.ensures.source ∙ sym (ap source_failures (c.in_err-finish.ensures shape begun.octets begun.unfinished.stands).0))

pub returns-in_err-finish-clause-numbers : goal.returns-in_err-finish-clause-numbers
returns-in_err-finish-clause-numbers g c =
    let shape = ty_view c.args.self.now.ty.now in
    let begun = begun_still shape _ c.loop-self.self.reader c.fill.new.self.reader _ _ c.fill.new.self.read _ _ _ c.loop-self.invariant.begun c.fill.ensures.kept (ap (λ r. r.reader) c.fill.ensures.stays) (ap (λ r. r.read) c.fill.ensures.stays) in
    rw (Err-same c.from_residual-in_err-finish.result _ c.from_residual-in_err-finish.ensures.1) (subst (IsOfChecking (read_rule c.args.self.now.reader)) (sym (c.in_err-finish.ensures shape begun.octets begun.unfinished.stands).0) tt)

pub feed-requires : goal.feed-requires
feed-requires g c =
    let shape = ty_view c.args.self.now.ty.now in
    let begun = begun_still shape _ c.loop-self.self.reader c.fill.new.self.reader _ _ c.fill.new.self.read _ _ _ c.loop-self.invariant.begun c.fill.ensures.kept (ap (λ r. r.reader) c.fill.ensures.stays) (ap (λ r. r.read) c.fill.ensures.stays) in
    (shape, begun.octets, begun.unfinished.stands)
