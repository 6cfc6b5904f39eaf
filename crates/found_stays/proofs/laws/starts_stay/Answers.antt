use Rattle.found_stays.proofs.Lying.{settled_has, all_off}
use Rattle.found_stays.proofs.laws.starts_stay.Goals as goal

pub returns : goal.returns
returns c = record { settled = settled_has; apart = all_off }
