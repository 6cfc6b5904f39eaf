use Rattle.change_steps.proofs.Little.{files_are_ready}
use Rattle.change_steps.proofs.laws.files_are_ready.Goals as goal

pub returns : goal.returns
returns c = files_are_ready
