use Rattle.space_model.proofs.Lawful.{chosen_are_free}
use Rattle.space_model.proofs.laws.chosen_are_free.Goals as goal

pub returns : goal.returns
returns c = chosen_are_free
