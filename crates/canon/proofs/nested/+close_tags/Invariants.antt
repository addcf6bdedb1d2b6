use Rattle.canon.proofs.nested.+close_tags.Given as goal

abbrev pub decreases-close_tags : goal.decreases-close_tags
decreases-close_tags l = l.end
