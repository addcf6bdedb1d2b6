use Rattle.engine.proofs.ReaderLemmas.{open_fed}
use Rattle.engine.proofs.any_reader.AnyReader.feed.Goals as goal

pub returns-in-Ber-clause-fed : goal.returns-in-Ber-clause-fed
returns-in-Ber-clause-fed c = λ shape old s.
    rw c.in-Ber.is (open_fed shape _ c.feed_into.new.self old c.args.piece.now c.feed_into.result c.feed_into.new.slot (rw c.in-Ber.is at s) c.feed_into.ensures.shape c.feed_into.ensures.value c.feed_into.ensures.never c.feed_into.ensures.numbers)

pub returns-in-Strict-clause-fed : goal.returns-in-Strict-clause-fed
returns-in-Strict-clause-fed c = λ shape old s. rw c.in-Strict.is (c.feed.ensures.fed shape old (rw c.in-Strict.is at s))
