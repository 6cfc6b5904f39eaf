use Rattle.format_plans.proofs.Taking.{takes_file_law}
use Rattle.format_plans.proofs.laws.new_volume_takes_file.Goals as goal

pub returns : goal.returns
returns c = takes_file_law
