use Rattle.plan_owners.proofs.Agreed.{volume_same, stands_now, tree_now, state_now, list_owned}
use Rattle.plan_owners.proofs.laws.owned_is_all.Goals as goal

pub returns : goal.returns
returns c = record { volume = volume_same; stands = stands_now; tree = tree_now; state = state_now; list = list_owned }
