use Rattle.raised_steps.proofs.Rising.{rises_where_full}
use Rattle.raised_steps.proofs.laws.rises_where_full.Goals as goal

pub returns : goal.returns
returns c = rises_where_full
