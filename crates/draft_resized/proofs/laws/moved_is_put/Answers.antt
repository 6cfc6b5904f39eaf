use Rattle.draft_resized.proofs.MovedEffects.{moved_put}
use Rattle.draft_resized.proofs.laws.moved_is_put.Goals as goal

pub returns : goal.returns
returns c = moved_put
