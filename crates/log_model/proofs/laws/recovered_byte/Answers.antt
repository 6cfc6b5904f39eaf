use Rattle.log_model.proofs.Recovering.{recovered_at, length-recovered, torn_after, stays}
use Rattle.log_model.proofs.laws.recovered_byte.Goals as goal

pub returns : goal.returns
returns c = record { bytes = recovered_at; size = length-recovered; torn = torn_after; shadowed = stays }
