use Rattle.types.specs.View.{ty_view, value_view}
use Rattle.berreader.proofs.NestStepLemmas.{placed}
use Rattle.berreader.proofs.nest.Nest.place_value.Goals as goal

pub put-requires-clause-due : goal.put-requires-clause-due
put-requires-clause-due c = (ty_view c.args.ty.now, c.requires.due)

pub put-requires-clause-room : goal.put-requires-clause-room
put-requires-clause-room c = c.requires.room

pub put-requires-clause-whole : goal.put-requires-clause-whole
put-requires-clause-whole c = c.requires.none

pub returns-then-is_node : goal.returns-then-is_node
returns-then-is_node c =
    let type = ty_view c.args.ty.now in
    let v = value_view c.args.value in
    placed c.args.self.now c.put.new.self type c.args.tag v v c.args.used c.put.new.whole c.put.result (c.is_node.ensures.wrapped c.if-is_node.true c.args.tag v) c.put.ensures.come c.put.ensures.counted
