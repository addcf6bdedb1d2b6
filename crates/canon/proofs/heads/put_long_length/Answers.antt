use Rattle.canon.proofs.OpeningLemmas.{long_length_put}
use Rattle.canon.proofs.heads.put_long_length.Goals as goal

pub returns-clause-put : goal.returns-clause-put
returns-clause-put c =
    long_length_put c.args.place c.args.contents c.args.out.now.items c.put_shortest_length.new.out.items c.swap_remove.new.self.items c.bring_forward.new.out.items c.swap_remove.result c.requires
    c.in_ok-put_shortest_length.ensures.appended c.swap_remove.ensures.items c.bring_forward.ensures
