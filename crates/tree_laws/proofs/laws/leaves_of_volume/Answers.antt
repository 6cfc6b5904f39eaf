use Rattle.tree_laws.proofs.Standing.{no_directory_leaf, empty_leaf}
use Rattle.tree_laws.proofs.laws.leaves_of_volume.Goals as goal

pub returns : goal.returns
returns c = record { no_directory = no_directory_leaf; empty = empty_leaf }
