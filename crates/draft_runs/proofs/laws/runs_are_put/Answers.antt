use Rattle.draft_runs.proofs.RunEffects.{runs_put}
use Rattle.draft_runs.proofs.laws.runs_are_put.Goals as goal

pub returns : goal.returns
returns c = runs_put
