use Rattle.made_steps.proofs.Stepping.{behind_steps}
use Rattle.made_steps.proofs.laws.made_behind_are_steps.Goals as goal

pub returns : goal.returns
returns c = behind_steps c.times_are_set.ensures c.new_file_reads.ensures c.found_is_there.ensures c.makings_are_steps.ensures
