use Rattle.std.proofs.Common.{length}
use Rattle.volume_tree.specs.volume_map.Maps.{volume_in}
use Rattle.volume_lookup.proofs.Fronting.{front_known}
use Rattle.volume_lookup.proofs.volume.VolumeTreeLookup.front.Goals as goal

pub returns-clause-value : goal.returns-clause-value
returns-clause-value g c =
    let s = c.args.self.now in
    front_known (g.V.View.content s.view) s.up.now (volume_in s.volume.now.map.now) c.args.number c.args.at (length c.args.out.now) c.front_shown.new.out c.front_shown.result c.front_shown.ensures.value
