use Rattle.types.specs.View.{ty_view}
use Rattle.encoding_parts.proofs.ChoiceLemmas.{own_node}
use Rattle.encoding_parts.proofs.choices.node_within.Goals as goal

pub returns-then-is_node : goal.returns-then-is_node
returns-then-is_node c = own_node c.args.tag (ty_view c.args.ty.now) (c.is_node.ensures.node.0 c.if-is_node.true) c.requires
