use Rattle.node_rows.proofs.plans.Index.+walk.Given as goal

abbrev pub decreases-walk : goal.decreases-walk
decreases-walk l = l.levels
