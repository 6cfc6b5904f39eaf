use Rattle.ring_laws.proofs.StoreRecovers.{recovers_since}
use Rattle.ring_laws.proofs.laws.images_recover_since.Goals as goal

pub returns : goal.returns
returns c = recovers_since
