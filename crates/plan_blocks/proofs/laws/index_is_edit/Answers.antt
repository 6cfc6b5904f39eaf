use Rattle.plan_blocks.proofs.Handing.{index_edit}
use Rattle.plan_blocks.proofs.laws.index_is_edit.Goals as goal

pub returns : goal.returns
returns c = index_edit
