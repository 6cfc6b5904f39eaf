use Rattle.plan_model.proofs.Drafting.{begins_empty, goes_on, no_rivals_in}
use Rattle.plan_model.proofs.Informing.{times_go_on}
use Rattle.plan_model.proofs.Quiet.{quiet_goes_on}
use Rattle.plan_model.proofs.laws.drafts_go_on.Goals as goal

pub returns : goal.returns
returns c = record { begins = begins_empty; goes_on = goes_on; rivals = no_rivals_in; times = times_go_on; quiet = quiet_goes_on }
