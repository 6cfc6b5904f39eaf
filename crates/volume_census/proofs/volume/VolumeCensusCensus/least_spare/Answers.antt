use Rattle.std.proofs.Common.{ap, ◌∙◌, List}
use Rattle.tree_model.specs.Effects.{least_ref}
use Rattle.volume_lookup.specs.volume_map.declared.head.Head.{Head}
use Rattle.volume_lookup.specs.volume_map.Heads.{spares_of}
use Rattle.volume_census.proofs.Counting.{spare_known}
use Rattle.volume_census.proofs.volume.VolumeCensusCensus.least_spare.Goals as goal

pub returns-clause-value : goal.returns-clause-value
returns-clause-value g c =
    let s = c.args.self.now in
    spare_known (g.V.View.content s.view) s.up.now s.volume.now.map.now c.least_spare.result s.mapped
    (c.least_spare.ensures ∙ ap (λ (heads : List Head). least_ref (spares_of heads s.volume.now.map.now.record_bits)) c.deref.ensures.value)
