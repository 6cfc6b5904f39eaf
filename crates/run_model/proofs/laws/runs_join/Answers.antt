use Rattle.run_model.specs.Runs.{IsTreeTurn}
use Rattle.run_model.proofs.Segments.{segment_join}
use Rattle.run_model.proofs.laws.runs_join.Goals as goal

pub returns : goal.returns
returns c = λ f. segment_join (IsTreeTurn f)
