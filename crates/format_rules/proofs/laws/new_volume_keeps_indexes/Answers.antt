use Rattle.format_rules.proofs.Indexing.{keeps_indexes_law}
use Rattle.format_rules.proofs.laws.new_volume_keeps_indexes.Goals as goal

pub returns : goal.returns
returns c = keeps_indexes_law
