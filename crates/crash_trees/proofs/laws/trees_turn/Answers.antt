use Rattle.crash_trees.proofs.Turning.{trees_turn}
use Rattle.crash_trees.proofs.laws.trees_turn.Goals as goal

pub returns : goal.returns
returns g c = trees_turn g.D.Device.gives g.D.Device.sector_count g.D.Device.moment_of g.D.Device.changes_of c.needed_is_all.ensures c.turns_rest.ensures
