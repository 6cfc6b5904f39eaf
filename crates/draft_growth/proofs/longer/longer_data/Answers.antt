use Rattle.std.proofs.Common.{ap}
use Rattle.draft_bitmaps.specs.space_model.Choosing.{chosen}
use Rattle.draft_bitmaps.specs.stream_runs.Runs.{last_cluster}
use Rattle.draft_growth.specs.Growing.{table_clusters}
use Rattle.draft_growth.proofs.Lengths.{data_longer}
use Rattle.draft_growth.proofs.longer.longer_data.Goals as goal

pub returns-clause-value : goal.returns-clause-value
returns-clause-value g c =
    data_longer c.args.per c.args.table.now (chosen (g.B.FreeBits.bits c.args.bits.now) (last_cluster c.args.table.now.extents.runs) table_clusters) c.in_ok-grown.grown c.in_ok-larger.larger c.in_ok-grown.ensures.value c.in_ok-larger.ensures.extents
    c.in_ok-larger.ensures.file (ap (λ v. v.items) c.in_ok-larger.ensures.taken)
