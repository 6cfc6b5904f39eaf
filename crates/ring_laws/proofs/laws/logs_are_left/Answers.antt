use Rattle.ring_laws.proofs.StoreImages.{log_is_left}
use Rattle.ring_laws.proofs.laws.logs_are_left.Goals as goal

pub returns : goal.returns
returns c = log_is_left
