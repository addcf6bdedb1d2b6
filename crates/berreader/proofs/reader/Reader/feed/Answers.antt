use Rattle.std.proofs.Common.{subst}
use Rattle.berreader.specs.Feeding.{IsFed}
use Rattle.berreader.proofs.RefusedLemmas.{final_passed}
use Rattle.berreader.proofs.reader.Reader.feed.Goals as goal

pub returns-clause-value : goal.returns-clause-value
returns-clause-value c = λ octets fed. subst (λ s. IsFed c.args.self.now c.feed_into.new.self octets c.args.piece.now s c.in_ok-used.used) c.in-Some.is (c.in_ok-used.ensures.value octets fed)

pub returns-in_default-clause-value : goal.returns-in_default-clause-value
returns-in_default-clause-value c = λ octets fed. subst (λ s. IsFed c.args.self.now c.feed_into.new.self octets c.args.piece.now s c.in_ok-used.used) c.in_default.is (c.in_ok-used.ensures.value octets fed)

pub returns-in_err-used-clause-never : goal.returns-in_err-used-clause-never
returns-in_err-used-clause-never c = λ accepts.
    final_passed c.from_residual.result _ _ c.from_residual.ensures.1 (λ final. c.in_err-used.ensures.never accepts final)
