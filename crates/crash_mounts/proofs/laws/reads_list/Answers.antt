use Rattle.crash_mounts.proofs.Reading.{reads_list}
use Rattle.crash_mounts.proofs.laws.reads_list.Goals as goal

pub returns : goal.returns
returns c = reads_list
