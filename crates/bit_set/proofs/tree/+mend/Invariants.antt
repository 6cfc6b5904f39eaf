use Rattle.bit_set.proofs.tree.+mend.Given as goal

abbrev pub decreases-mend : goal.decreases-mend
decreases-mend l = l.level
