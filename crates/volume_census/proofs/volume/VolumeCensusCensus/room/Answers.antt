use Rattle.volume_census.proofs.Counting.{room_known}
use Rattle.volume_census.proofs.volume.VolumeCensusCensus.room.Goals as goal

pub returns : goal.returns
returns g c =
    let s = c.args.self.now in
    room_known (g.V.View.content s.view) s.up.now s.volume.now.map.now c.count_clear.result s.mapped c.count_clear.ensures
