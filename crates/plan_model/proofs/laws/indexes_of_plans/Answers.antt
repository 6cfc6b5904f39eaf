use Rattle.plan_model.proofs.PlannedIndexing.{one_put, put_rises, planned_after}
use Rattle.plan_model.proofs.laws.indexes_of_plans.Goals as goal

pub returns : goal.returns
returns c = record { put = one_put; rises = put_rises; lists = planned_after }
