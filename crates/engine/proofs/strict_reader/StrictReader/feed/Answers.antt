use Rattle.std.proofs.Common.{rules, ◌≡◌, ◌++◌, [], refl}
use Rattle.types.specs.declared.refusal.Refusal.TheVariants.{NoMemory}
use Rattle.engine.specs.Rule.{canonical_rule_of}
use Rattle.engine.proofs.FeedingLemmas.{empty_is}
use Rattle.engine.proofs.StrictReaderLemmas.{strict_at_once, memory_ran_out}
use Rattle.engine.proofs.strict_reader.StrictReader.feed.Goals as goal

pub returns-in-Ok-clause-fed : goal.returns-in-Ok-clause-fed
returns-in-Ok-clause-fed c = λ shape old s.
    let none : c.args.self.now.begun.items ≡ [] = empty_is c.args.self.now.begun.items (search rules) in
    let h = c.in-Ok.ensures.value in
    strict_at_once (canonical_rule_of c.args.self.now.rule) shape c.args.self.now old c.args.piece.now c.read_into.new.slot c.in-Ok.used s none h.0 h.1

pub returns-in-Err-NoMemory-clause-fed : goal.returns-in-Err-NoMemory-clause-fed
returns-in-Err-NoMemory-clause-fed c = λ shape old s. memory_ran_out (canonical_rule_of c.args.self.now.rule) shape (old ++ c.args.piece.now) NoMemory refl
