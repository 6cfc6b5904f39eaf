use Rattle.change_run.proofs.Carrying.{starts_now}
use Rattle.change_run.proofs.laws.starts_now.Goals as goal

pub returns : goal.returns
returns g c first tree older =
    starts_now g.D.Device.gives g.D.Device.sector_count g.D.Device.changes_of g.D.Device.moment_of g.met.D.Device.over first tree c.args.volume.now c.left.ensures older
