use Rattle.plan_model.proofs.TableSteps.{table_stands, table_tree}
use Rattle.plan_model.proofs.laws.table_edited.Goals as goal

pub returns : goal.returns
returns c = record { stands = table_stands; tree = table_tree }
