use Rattle.format_rules.proofs.Checking.{stands}
use Rattle.format_rules.proofs.laws.loaded_volume_stands.Goals as goal

pub returns : goal.returns
returns c = stands
