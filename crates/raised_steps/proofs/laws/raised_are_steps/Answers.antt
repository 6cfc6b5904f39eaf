use Rattle.raised_steps.proofs.Stepping.{raised_steps}
use Rattle.raised_steps.proofs.laws.raised_are_steps.Goals as goal

pub returns : goal.returns
returns c = raised_steps c.times_are_set.ensures c.new_file_reads.ensures c.found_is_there.ensures c.makings_are_steps.ensures
