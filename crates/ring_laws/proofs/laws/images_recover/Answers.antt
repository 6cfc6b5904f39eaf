use Rattle.ring_laws.proofs.StoreRecovers.{image_recovers}
use Rattle.ring_laws.proofs.laws.images_recover.Goals as goal

pub returns : goal.returns
returns c = image_recovers
