use Rattle.draft_resized.proofs.FileEffects.{resized_put}
use Rattle.draft_resized.proofs.laws.resized_is_put.Goals as goal

pub returns : goal.returns
returns c = resized_put
