use Rattle.made_steps.proofs.Rising.{rises_where_needed}
use Rattle.made_steps.proofs.laws.rises_where_needed.Goals as goal

pub returns : goal.returns
returns c = rises_where_needed
