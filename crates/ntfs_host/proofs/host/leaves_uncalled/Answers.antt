use Rattle.ntfs_host.proofs.Uncalled.{uncalled}
use Rattle.ntfs_host.proofs.host.leaves_uncalled.Goals as goal

pub returns : goal.returns
returns g c = λ asked. uncalled asked g.D.Device.sector_count g.D.Device.gives g.D.Device.moment_of g.D.Device.changes_of c.args.device.now (g.met.D.Device.over c.args.device.now)
