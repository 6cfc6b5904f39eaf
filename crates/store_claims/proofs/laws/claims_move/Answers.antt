use Rattle.store_claims.proofs.Moving.{claims_move}
use Rattle.store_claims.proofs.laws.claims_move.Goals as goal

pub returns : goal.returns
returns c = claims_move
