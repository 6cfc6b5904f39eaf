use Rattle.bit_set.proofs.Members.{clearing}
use Rattle.bit_set.proofs.laws.clearing_takes_away.Goals as goal

pub returns : goal.returns
returns c = clearing
