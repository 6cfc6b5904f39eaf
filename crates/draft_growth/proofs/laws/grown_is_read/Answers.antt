use Rattle.draft_growth.proofs.GrownEffects.{grown_read}
use Rattle.draft_growth.proofs.laws.grown_is_read.Goals as goal

pub returns : goal.returns
returns c = grown_read
