use Rattle.plan_spares.proofs.Planned.{planned}
use Rattle.plan_spares.proofs.laws.plans_spare.Goals as goal

pub returns : goal.returns
returns c = planned c.drafts_go_on.ensures c.owned_once.ensures c.states_stand.ensures
