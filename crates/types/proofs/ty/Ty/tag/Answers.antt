use Rattle.std.proofs.Common.{ap, refl, ◌∙◌}
use Rattle.types.specs.View.{ty_view, alternatives_view}
use Rattle.types.proofs.ViewLemmas.{ty-Choice}
use Rattle.types.proofs.ty.Ty.tag.Goals as goal

pub returns-in-Choice-clause-none : goal.returns-in-Choice-clause-none
returns-in-Choice-clause-none c = (
  λ none. (alternatives_view c.in-Choice.field-0.items, ap ty_view c.in-Choice.is ∙ ty-Choice c.in-Choice.field-0),
  λ chosen. refl,
)
