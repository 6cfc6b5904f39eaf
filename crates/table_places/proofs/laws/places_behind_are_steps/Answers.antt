use Rattle.table_places.proofs.Growing.{places_step}
use Rattle.table_places.proofs.laws.places_behind_are_steps.Goals as goal

pub returns : goal.returns
returns c =
    places_step c.found_is_there.ensures c.streams_of_states.ensures c.times_are_set.ensures c.indexes_are_laid_out.ensures c.new_file_reads.ensures c.grown_is_edit.ensures
    c.put_grows_next.ensures c.puts_among.ensures c.indexes_move.ensures c.times_keep_index.ensures c.rises_where_needed.ensures c.made_behind_are_steps.ensures
