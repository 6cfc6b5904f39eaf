use Rattle.bit_set.proofs.tree.+walk.Given as goal

abbrev pub decreases-walk : goal.decreases-walk
decreases-walk l = l.level
