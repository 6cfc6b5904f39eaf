use Rattle.member_states.proofs.Leading.{may_put}
use Rattle.member_states.proofs.laws.volumes_may_put.Goals as goal

pub returns : goal.returns
returns c = may_put
