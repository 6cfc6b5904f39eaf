use Rattle.stream_laws.proofs.Owning.{one_block, no_rivals, one_owner, live_anyhow}
use Rattle.stream_laws.proofs.laws.owned_once.Goals as goal

pub returns : goal.returns
returns c = record { one = one_block; no_rivals = no_rivals; place = one_owner; live = live_anyhow }
