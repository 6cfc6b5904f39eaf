use Rattle.run_model.specs.Runs.{IsTreeTurn}
use Rattle.run_model.proofs.Segments.{segment_push}
use Rattle.run_model.proofs.laws.run_goes_on.Goals as goal

pub returns : goal.returns
returns c = λ f. segment_push (IsTreeTurn f)
