use Rattle.std.proofs.Common.{sym, ◌∙◌}
use Rattle.volume_shadows.proofs.Streaming.{none_said}
use Rattle.volume_shadows.proofs.finding.least_live.Goals as goal

pub returns-then-is_empty : goal.returns-then-is_empty
returns-then-is_empty c = none_said c.args.per c.args.files.now c.args.shadows.now (sym c.is_empty.ensures ∙ c.if-is_empty.true)
