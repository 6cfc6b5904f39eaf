use Rattle.member_states.proofs.Putting.{put_keeps, left_keeps, putting_keeps}
use Rattle.member_states.proofs.laws.puts_keep_states.Goals as goal

pub returns : goal.returns
returns c = record { put = put_keeps; left = left_keeps; putting = putting_keeps }
