use Rattle.store_claims.proofs.Recovering.{claimed_recovers}
use Rattle.store_claims.proofs.laws.claimed_recovers.Goals as goal

pub returns : goal.returns
returns c = claimed_recovers
