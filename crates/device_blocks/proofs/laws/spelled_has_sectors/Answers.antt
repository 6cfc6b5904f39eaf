use Rattle.device_blocks.proofs.Stood.{spelled_sectors}
use Rattle.device_blocks.proofs.laws.spelled_has_sectors.Goals as goal

pub returns : goal.returns
returns c = spelled_sectors
