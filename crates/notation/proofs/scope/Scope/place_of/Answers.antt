use Rattle.std.proofs.Common.{◌∙◌}
use Rattle.notation.proofs.KnownLemmas.{place_told}
use Rattle.notation.proofs.SettledLemmas.{place_known}
use Rattle.notation.proofs.scope.Scope.place_of.Goals as goal

pub returns-clause-stands : goal.returns-clause-stands
returns-clause-stands c = place_told c.args.self.now.module.now c.args.self.now c.args.name.now c.get_index_of.result c.get_index_of.ensures.index

pub returns-clause-place : goal.returns-clause-place
returns-clause-place c = λ s. c.get_index_of.ensures.index ∙ place_known c.args.self.now.module.now c.args.self.now c.args.name.now s
