use Rattle.std.proofs.Common.{◌∙◌}
use Rattle.volume_shadows.specs.Tries.{near_of}
use Rattle.volume_shadows.proofs.searching.least_in_run.Goals as goal

pub returns : goal.returns
returns c = c.least_among.ensures ∙ c.shadows_in-shadows.ensures.same c.args.kind c.args.count (near_of c.args.apart c.args.runs.now c.args.run.now)
