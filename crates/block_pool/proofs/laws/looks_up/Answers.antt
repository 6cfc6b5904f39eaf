use Rattle.block_pool.proofs.LookUps.{looks_up}
use Rattle.block_pool.proofs.laws.looks_up.Goals as goal

pub returns : goal.returns
returns g c = looks_up _
