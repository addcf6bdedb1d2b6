use Rattle.std.proofs.Common.{List, ℕ, subst}
use Rattle.std.specs.Io.KnownBytes.{Consumes}
use Rattle.value_stream.proofs.NextLemmas.{behind_piece}
use Rattle.value_stream.proofs.values.Values.into_source.Goals as goal

pub returns-clause-left : goal.returns-clause-left
returns-clause-left g c =
    let source = g.S.Source.left c.self.inside.reading.source in
    subst (λ p. (given : List ℕ) × Consumes p.left source given) c.self.view_is (behind_piece c.self.inside.reading.at c.self.inside.reading.piece source)
