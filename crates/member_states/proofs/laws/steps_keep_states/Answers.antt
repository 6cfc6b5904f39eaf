use Rattle.member_states.proofs.Staying.{write_stays, moves_stay, turn_stays}
use Rattle.member_states.proofs.laws.steps_keep_states.Goals as goal

pub returns : goal.returns
returns c = record { write = write_stays; moves = moves_stay; turn = turn_stays }
