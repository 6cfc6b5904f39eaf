use Rattle.data_plan.proofs.placed.placed_after.Goals as goal

pub cuts-requires-clause-has : goal.cuts-requires-clause-has
cuts-requires-clause-has g c = (_, c.requires.has)

pub changes_sizes-requires-clause-has : goal.changes_sizes-requires-clause-has
changes_sizes-requires-clause-has g c = (_, c.requires.has)
