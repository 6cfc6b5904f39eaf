use Rattle.format_store.proofs.NewLogs.{all_open}
use Rattle.format_store.proofs.laws.new_logs_open.Goals as goal

pub returns : goal.returns
returns c = all_open c.logs_open.ensures
