use Rattle.change_steps.proofs.Changing.{drafts_are_written}
use Rattle.change_steps.proofs.laws.drafts_are_written.Goals as goal

pub returns : goal.returns
returns c = drafts_are_written
