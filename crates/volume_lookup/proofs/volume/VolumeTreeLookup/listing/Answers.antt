use Rattle.volume_tree.specs.volume_map.Maps.{volume_in}
use Rattle.volume_lookup.proofs.Giving.{listing_known}
use Rattle.volume_lookup.proofs.volume.VolumeTreeLookup.listing.Goals as goal

pub returns-clause-value : goal.returns-clause-value
returns-clause-value g c =
    let s = c.args.self.now in
    listing_known (g.V.View.content s.view) s.up.now (volume_in s.volume.now.map.now) c.args.directory c.names_held.result c.names_held.ensures.value c.requires.directory
