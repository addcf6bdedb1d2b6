use Rattle.std.proofs.Common.{reverse, arith}
use Rattle.canon.proofs.TurnedLemmas.{turned_behind}
use Rattle.canon.proofs.turned.turn_forward.Goals as goal

pub returns : goal.returns
returns c = λ before contents turned front behind is.
    c.bring_forward.ensures before contents (reverse turned) front (omega (arith, behind)) (turned_behind before contents turned c.args.out.now.items c.turn.new.out.items c.args.start c.args.from front behind is c.turn.ensures)
