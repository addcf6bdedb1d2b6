use Rattle.std.proofs.Common.{◌++◌, Some, None, Ok, Err, ap, refl}
use Rattle.engine.specs.Rule.{canonical_rule_of}
use Rattle.octets.proofs.ResultLemmas.{Err-same}
use Rattle.octets.proofs.RuleLemmas.{rule_is_canonical}
use Rattle.engine.proofs.ReaderLemmas.{open_fed}
use Rattle.engine.proofs.StrictReaderLemmas.{kept_by_ber, memory_ran_out, strict_more, done_in_slot, strict_refused, strict_error}
use Rattle.engine.proofs.strict_reader.StrictReader.feed_begun.Goals as goal

pub judge-requires : goal.judge-requires
judge-requires c =
    let shape = c.requires.0 in
    let s = c.requires.2 in
    let fed = open_fed shape c.args.self.now.reader c.feed_into.new.self c.requires.1 c.args.piece.now (Ok c.in_ok-used.used) (Some c.in-Some.field-0) s.reader_stands
    c.in_ok-used.ensures.shape (rw c.in-Some.is at c.in_ok-used.ensures.value) (λ _. tt) tt in
    kept_by_ber shape c.args.self.now c.feed_into.new.self c.requires.1 c.args.piece.now c.split_at.result.0.now c.in-Some.field-0 c.in_ok-used.used s fed c.split_at.ensures.front

pub returns-in_default-clause-fed : goal.returns-in_default-clause-fed
returns-in_default-clause-fed c = λ shape old s.
    let fed = open_fed shape c.args.self.now.reader c.feed_into.new.self old c.args.piece.now (Ok c.in_ok-used.used) None s.reader_stands
    c.in_ok-used.ensures.shape (rw c.in_default.is at c.in_ok-used.ensures.value) (λ _. tt) tt in
    rw c.in_default.is (strict_more (canonical_rule_of c.args.self.now.rule) shape c.args.self.now _ old c.args.piece.now c.in_ok-used.used (rule_is_canonical c.args.self.now.rule) s refl fed c.in_ok-keep.ensures.kept)

pub returns-clause-fed : goal.returns-clause-fed
returns-clause-fed c = λ shape old s.
    let fed = open_fed shape c.args.self.now.reader c.feed_into.new.self old c.args.piece.now (Ok c.in_ok-used.used) (Some c.in-Some.field-0) s.reader_stands
    c.in_ok-used.ensures.shape (rw c.in-Some.is at c.in_ok-used.ensures.value) (λ _. tt) tt in
    done_in_slot (canonical_rule_of c.args.self.now.rule) shape c.args.self.now _ old c.args.piece.now c.split_at.result.0.now c.in-Some.field-0 c.judge.new.slot c.in_ok-used.used
    s refl fed c.split_at.ensures.front c.in_ok-judge.ensures.judged.accepted c.in_ok-judge.ensures.none_kept

pub returns-in_err-judge-clause-fed : goal.returns-in_err-judge-clause-fed
returns-in_err-judge-clause-fed c = λ shape old s.
    let fed = open_fed shape c.args.self.now.reader c.feed_into.new.self old c.args.piece.now (Ok c.in_ok-used.used) (Some c.in-Some.field-0) s.reader_stands
    c.in_ok-used.ensures.shape (rw c.in-Some.is at c.in_ok-used.ensures.value) (λ _. tt) tt in
    rw (Err-same c.from_residual-in_err-judge.result _ c.from_residual-in_err-judge.ensures.1)
    (strict_refused (canonical_rule_of c.args.self.now.rule) shape c.args.self.now c.feed_into.new.self old c.args.piece.now c.split_at.result.0.now c.in-Some.field-0 c.in_ok-used.used c.in_err-judge.field-0.0
    (rule_is_canonical c.args.self.now.rule) s fed c.split_at.ensures.front c.in_err-judge.ensures.judged.numbers (λ is. c.in_err-judge.ensures.judged.never (ap Err is)))

pub returns-in_err-used-clause-fed : goal.returns-in_err-used-clause-fed
returns-in_err-used-clause-fed c = λ shape old s.
    let fed = open_fed shape c.args.self.now.reader c.feed_into.new.self old c.args.piece.now (Err c.in_err-used.field-0.0) c.feed_into.new.slot s.reader_stands tt tt c.in_err-used.ensures.never c.in_err-used.ensures.numbers in
    rw (Err-same c.from_residual.result _ c.from_residual.ensures.1)
    (strict_error (canonical_rule_of c.args.self.now.rule) shape c.args.self.now c.feed_into.new.self old c.args.piece.now c.in_err-used.field-0.0 c.feed_into.new.slot (rule_is_canonical c.args.self.now.rule) s fed)

pub returns-in_err-keep-clause-fed : goal.returns-in_err-keep-clause-fed
returns-in_err-keep-clause-fed c = λ shape old s.
    rw (Err-same c.from_residual-in_err-keep.result _ c.from_residual-in_err-keep.ensures.1)
    (memory_ran_out (canonical_rule_of c.args.self.now.rule) shape (old ++ c.args.piece.now) c.in_err-keep.field-0.0 c.in_err-keep.ensures.refused)
