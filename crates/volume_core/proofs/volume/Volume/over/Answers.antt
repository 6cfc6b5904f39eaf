use Rattle.working_volume.specs.map_change.Parts.{live_parts}
use Rattle.volume_core.proofs.Histories.{starts_history}
use Rattle.volume_core.proofs.volume.Volume.over.Goals as goal

pub returns-clause-starts : goal.returns-clause-starts
returns-clause-starts g c =
    starts_history g.D.Device.gives g.D.Device.sector_count g.D.Device.changes_of (record { store = c.args.store; map = live_parts c.args.live; table = c.args.upper; streams = c.args.streams }) c.trees_start.ensures
