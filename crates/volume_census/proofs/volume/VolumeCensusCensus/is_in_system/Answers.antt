use Rattle.volume_lookup.specs.volume_map.Maps.{volume_in}
use Rattle.volume_census.proofs.Counting.{system_known}
use Rattle.volume_census.proofs.volume.VolumeCensusCensus.is_in_system.Goals as goal

pub returns-clause-value : goal.returns-clause-value
returns-clause-value g c =
    let s = c.args.self.now in
    system_known (g.V.View.content s.view) s.up.now (volume_in s.volume.now.map.now) c.args.directory c.is_in_system.result c.requires.directory c.is_in_system.ensures
