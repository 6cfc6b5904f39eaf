use Rattle.place_raises.proofs.Levels.{behind_level}
use Rattle.place_raises.proofs.planning.vcns_behind.Goals as goal

pub returns-clause-lie : goal.returns-clause-lie
returns-clause-lie c = behind_level c.args.file.now c.args.first c.in_ok-vcns_from.field-0.items c.requires.first c.in_ok-vcns_from.ensures
