use Rattle.index_model.proofs.Faults.{walk_breaks, find_breaks}
use Rattle.index_model.proofs.laws.fault_breaks.Goals as goal

pub returns : goal.returns
returns c = record { of_walk = walk_breaks; of_search = find_breaks }
