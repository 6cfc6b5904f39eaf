use Rattle.plan_blocks.proofs.Handing.{rooted_edit}
use Rattle.plan_blocks.proofs.laws.rooted_is_edit.Goals as goal

pub returns : goal.returns
returns c = rooted_edit
