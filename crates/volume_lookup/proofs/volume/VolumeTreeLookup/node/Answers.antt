use Rattle.volume_tree.specs.volume_map.Maps.{volume_in}
use Rattle.volume_lookup.proofs.Giving.{node_known}
use Rattle.volume_lookup.proofs.volume.VolumeTreeLookup.node.Goals as goal

pub returns-clause-value : goal.returns-clause-value
returns-clause-value g c =
    let s = c.args.self.now in
    node_known (g.V.View.content s.view) s.up.now (volume_in s.volume.now.map.now) c.args.number c.bare_node.result c.bare_node.ensures
