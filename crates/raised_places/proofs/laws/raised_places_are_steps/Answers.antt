use Rattle.raised_places.proofs.Stepping.{raised_places}
use Rattle.raised_places.proofs.laws.raised_places_are_steps.Goals as goal

pub returns : goal.returns
returns c =
    raised_places c.reads_the_table.ensures c.found_is_there.ensures c.places_are_there.ensures c.indexes_are_laid_out.ensures c.streams_of_states.ensures c.times_are_set.ensures c.new_file_reads.ensures c.raised_is_edit.ensures
    c.put_raises.ensures c.puts_as_counted.ensures c.counts_among_all.ensures c.indexes_move.ensures c.times_keep_grown.ensures c.never_needs_level.ensures c.takes_alike.ensures c.roots_are_loose.ensures c.raised_are_steps.ensures
