use Rattle.found_places.proofs.Steps.{places_step}
use Rattle.found_places.proofs.laws.places_take_steps.Goals as goal

pub returns : goal.returns
returns c = places_step c.reads_the_table.ensures c.streams_of_states.ensures c.found_is_there.ensures c.times_are_set.ensures c.indexes_are_laid_out.ensures c.new_file_reads.ensures c.rises_where_needed.ensures c.made_behind_are_steps.ensures
