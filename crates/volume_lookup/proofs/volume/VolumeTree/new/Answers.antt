use Rattle.volume_tree.specs.volume_map.Maps.{volume_in}
use Rattle.volume_lookup.proofs.Asking.{known_where}
use Rattle.volume_lookup.proofs.volume.VolumeTree.new.Goals as goal

pub returns-clause-tree : goal.returns-clause-tree
returns-clause-tree g c = known_where (g.V.View.content c.args.view) c.args.up.now (volume_in c.args.volume.now.map.now)
