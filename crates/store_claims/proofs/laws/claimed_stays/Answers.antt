use Rattle.store_claims.proofs.Staying.{claimed_stays}
use Rattle.store_claims.proofs.laws.claimed_stays.Goals as goal

pub returns : goal.returns
returns c = claimed_stays
