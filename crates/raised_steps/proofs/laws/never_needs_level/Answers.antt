use Rattle.raised_steps.proofs.Taking.{never_needs_level}
use Rattle.raised_steps.proofs.laws.never_needs_level.Goals as goal

pub returns : goal.returns
returns c = never_needs_level
