use Rattle.made_data.proofs.Having.{made_counted}
use Rattle.made_data.proofs.laws.made_is_counted.Goals as goal

pub returns : goal.returns
returns c = made_counted c.data_made.ensures
