use Rattle.std.proofs.Common.{◌∙◌}
use Rattle.volume_shadows.proofs.Streaming.{least_by_runs}
use Rattle.volume_shadows.proofs.searching.least_in_blocks.Goals as goal

pub returns : goal.returns
returns c = c.least_in_runs.ensures ∙ least_by_runs c.args.per c.args.kind c.args.count c.stand_apart-apart.result c.args.runs.now c.args.sorted.now c.requires.some c.stand_apart-apart.ensures
