use Rattle.index_model.proofs.WalkLaw.{passed_walk, walk_passes}
use Rattle.index_model.proofs.laws.walk_is_index.Goals as goal

pub returns : goal.returns
returns c = record { passed = passed_walk; passes = walk_passes }
