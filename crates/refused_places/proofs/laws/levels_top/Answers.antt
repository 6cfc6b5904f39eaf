use Rattle.refused_places.proofs.Topping.{levels_topped}
use Rattle.refused_places.proofs.laws.levels_top.Goals as goal

pub returns : goal.returns
returns c = levels_topped
