use Rattle.store_model.proofs.Rings.{restart_chosen, restarts-step}
use Rattle.store_model.proofs.laws.restart_is_chosen.Goals as goal

pub returns : goal.returns
returns c = record { chosen = restart_chosen; step = restarts-step }
