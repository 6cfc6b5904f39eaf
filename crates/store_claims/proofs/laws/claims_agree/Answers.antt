use Rattle.store_claims.proofs.Agreeing.{claims_agree}
use Rattle.store_claims.proofs.laws.claims_agree.Goals as goal

pub returns : goal.returns
returns c = claims_agree
