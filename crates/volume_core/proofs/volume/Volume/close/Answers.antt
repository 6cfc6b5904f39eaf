use Rattle.working_volume.specs.map_change.Parts.{live_parts}
use Rattle.volume_core.proofs.Histories.{closes_trees}
use Rattle.volume_core.proofs.volume.Volume.close.Goals as goal

pub returns-clause-closes : goal.returns-clause-closes
returns-clause-closes g c =
    rw (← c.self.view_is)
    (closes_trees g.D.Device.gives g.D.Device.sector_count g.D.Device.moment_of g.D.Device.changes_of (record { store = c.self.inside.store; map = live_parts c.self.inside.live; table = c.self.inside.upper; streams = c.self.inside.streams }) c.close.result.0 c.close.result.1 c.trees_close.ensures c.close_leaves.ensures c.close.ensures.closes)
