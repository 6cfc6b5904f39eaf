use Rattle.format_rules.proofs.Keeping.{keeps_sizes_law}
use Rattle.format_rules.proofs.laws.new_volume_keeps_sizes.Goals as goal

pub returns : goal.returns
returns c = keeps_sizes_law
