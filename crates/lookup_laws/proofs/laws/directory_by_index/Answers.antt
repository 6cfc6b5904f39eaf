use Rattle.lookup_laws.proofs.Finding.{found_by_index, listed_by_index}
use Rattle.lookup_laws.proofs.Holding.{held_by_index}
use Rattle.lookup_laws.proofs.laws.directory_by_index.Goals as goal

pub returns : goal.returns
returns c = record { held = held_by_index; found = found_by_index; listed = listed_by_index }
