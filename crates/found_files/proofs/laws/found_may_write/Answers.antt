use Rattle.found_files.proofs.Having.{found_may_write}
use Rattle.found_files.proofs.laws.found_may_write.Goals as goal

pub returns : goal.returns
returns c = found_may_write c.files_are_ready.ensures c.made_is_counted.ensures c.files_have_data.ensures c.streams_of_states.ensures
