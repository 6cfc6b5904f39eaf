use Rattle.plan_owners.proofs.Standing.{stands, as_state, begins}
use Rattle.plan_owners.proofs.Outside.{once}
use Rattle.plan_owners.proofs.Unnamed.{unnamed}
use Rattle.plan_owners.proofs.laws.states_stand.Goals as goal

pub returns : goal.returns
returns c = record { volume = stands; state = as_state; begins = begins; once = once; unnamed = unnamed }
