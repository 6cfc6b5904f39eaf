use Rattle.written_made.proofs.Stepping.{made_step}
use Rattle.written_made.proofs.laws.made_is_step.Goals as goal

pub returns : goal.returns
returns c = made_step c.made_is_done.ensures c.drafts_are_written.ensures c.changes_are_steps.ensures
