use Rattle.log_model.proofs.Origins.{origin_stays}
use Rattle.log_model.proofs.laws.origin_kept.Goals as goal

pub returns : goal.returns
returns c = origin_stays
