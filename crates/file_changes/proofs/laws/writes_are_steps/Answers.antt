use Rattle.file_changes.proofs.Stepping.{stepped}
use Rattle.file_changes.proofs.laws.writes_are_steps.Goals as goal

pub returns : goal.returns
returns c = stepped c.writes_are_done.ensures c.drafts_are_written.ensures c.changes_are_steps.ensures
