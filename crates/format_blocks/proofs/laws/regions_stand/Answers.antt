use Rattle.format_blocks.proofs.Standing.{regions_stand}
use Rattle.format_blocks.proofs.laws.regions_stand.Goals as goal

pub returns : goal.returns
returns c = regions_stand
