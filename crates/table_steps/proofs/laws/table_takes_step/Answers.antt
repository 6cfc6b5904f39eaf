use Rattle.table_steps.proofs.Growing.{takes}
use Rattle.table_steps.proofs.laws.table_takes_step.Goals as goal

pub returns : goal.returns
returns c = takes c.table_grows_first.ensures c.table_is_ready.ensures c.table_is_not_full.ensures c.table_takes_little.ensures
