use Rattle.stream_laws.proofs.Placing.{once_everywhere, once_inside}
use Rattle.stream_laws.proofs.laws.once_by_rule.Goals as goal

pub returns : goal.returns
returns c = record { everywhere = once_everywhere; inside = once_inside }
