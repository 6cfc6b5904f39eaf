use Rattle.volume_tree.specs.volume_map.Maps.{volume_in}
use Rattle.volume_lookup.proofs.Giving.{link_known}
use Rattle.volume_lookup.proofs.volume.VolumeTreeLookup.link.Goals as goal

pub returns-clause-value : goal.returns-clause-value
returns-clause-value g c =
    let s = c.args.self.now in
    link_known (g.V.View.content s.view) s.up.now (volume_in s.volume.now.map.now) c.args.directory c.args.part.now c.link_found.result c.link_found.ensures.value c.requires.directory
