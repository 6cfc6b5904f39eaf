use Rattle.directory_index.proofs.Numbers.{of_each_volume}
use Rattle.directory_index.proofs.breaking.first_broken.Goals as goal

pub returns-clause-value : goal.returns-clause-value
returns-clause-value g c = of_each_volume _ c.args.per c.args.up.now c.args.files.now _ c.first_failing.ensures.value
