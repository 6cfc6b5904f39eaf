use Rattle.volume_state.proofs.Reports.{one_tree, state_reported, state_stands}
use Rattle.volume_state.proofs.laws.check_of_state.Goals as goal

pub returns : goal.returns
returns c = record { one = one_tree; reported = state_reported; stands = state_stands }
