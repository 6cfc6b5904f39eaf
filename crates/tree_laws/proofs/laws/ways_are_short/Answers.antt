use Rattle.tree_laws.proofs.Shortening.{short, leads_by_parent, way_keeps_8, steady, in_system_by}
use Rattle.tree_laws.proofs.laws.ways_are_short.Goals as goal

pub returns : goal.returns
returns c = record { short = short; below = leads_by_parent; rule_8 = way_keeps_8; steady = steady; in_system_by = in_system_by }
