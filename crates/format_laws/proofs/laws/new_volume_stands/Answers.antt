use Rattle.format_laws.proofs.Opening.{formatted_stands}
use Rattle.format_laws.proofs.laws.new_volume_stands.Goals as goal

pub returns : goal.returns
returns c = formatted_stands
