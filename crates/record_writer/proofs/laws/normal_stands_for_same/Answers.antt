use Rattle.record_writer.proofs.Staying.{all_stand}
use Rattle.record_writer.proofs.laws.normal_stands_for_same.Goals as goal

pub returns : goal.returns
returns c = all_stand
