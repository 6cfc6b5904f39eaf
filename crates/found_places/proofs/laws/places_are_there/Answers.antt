use Rattle.found_places.proofs.Makes.{places_there}
use Rattle.found_places.proofs.laws.places_are_there.Goals as goal

pub returns : goal.returns
returns c = places_there c.reads_the_table.ensures c.streams_of_states.ensures c.found_is_there.ensures c.times_are_set.ensures c.indexes_are_laid_out.ensures
