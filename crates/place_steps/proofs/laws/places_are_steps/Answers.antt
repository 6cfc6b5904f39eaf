use Rattle.place_steps.proofs.Growing.{places_step}
use Rattle.place_steps.proofs.laws.places_are_steps.Goals as goal

pub returns : goal.returns
returns c =
    places_step c.reads_the_table.ensures c.found_is_there.ensures c.places_are_there.ensures c.places_take_steps.ensures c.indexes_are_laid_out.ensures c.streams_of_states.ensures c.times_are_set.ensures c.new_file_reads.ensures c.grown_is_edit.ensures
    c.put_grows_first.ensures c.puts_as_counted.ensures c.counts_among_all.ensures c.indexes_move.ensures c.times_keep_index.ensures c.rises_where_needed.ensures c.made_behind_are_steps.ensures
