use Rattle.types.specs.FirstTags.{first_tags}
use Rattle.types.specs.View.{ty_view}
use Rattle.judging.proofs.LeastLemmas.{least_of_rest}
use Rattle.judging.proofs.order.order_tag.Goals as goal

pub returns-in-None-clause-cer : goal.returns-in-None-clause-cer
returns-in-None-clause-cer c = λ _ there. least_of_rest (first_tags (ty_view c.args.ty.now)) c.args.tag c.least_of_type.result there c.least_of_type.ensures
