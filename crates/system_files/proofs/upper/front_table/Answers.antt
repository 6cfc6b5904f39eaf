use Rattle.system_files.proofs.Fronts.{table_known}
use Rattle.system_files.proofs.upper.front_table.Goals as goal

pub returns-clause-value : goal.returns-clause-value
returns-clause-value g c = table_known _ c.args.per c.args.stream.now _ _ _ c.requires.long c.in_ok-front.ensures.bytes c.in_ok-table_or_standard.ensures.value
