use Rattle.plan_model.proofs.Indexing.{listed_after}
use Rattle.plan_model.proofs.laws.index_walked.Goals as goal

pub returns : goal.returns
returns c = listed_after
