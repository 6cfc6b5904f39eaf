use Rattle.plan_edits.proofs.Putting.{drafts_put}
use Rattle.plan_edits.proofs.laws.drafts_put_blocks.Goals as goal

pub returns : goal.returns
returns c = drafts_put
