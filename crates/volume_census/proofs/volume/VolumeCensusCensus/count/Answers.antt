use Rattle.std.proofs.Common.{ap, ◌∙◌, List, Option, length}
use Rattle.record_model.specs.Records.{Record}
use Rattle.volume_census.proofs.Counting.{count_known}
use Rattle.volume_census.proofs.volume.VolumeCensusCensus.count.Goals as goal

pub returns : goal.returns
returns g c =
    let s = c.args.self.now in
    count_known (g.V.View.content s.view) s.up.now s.volume.now.map.now c.records.result s.mapped (c.records.ensures ∙ ap (λ (files : List (Option Record)). length files) c.deref.ensures.value)
