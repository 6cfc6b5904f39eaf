use Rattle.log_recovery.specs.Sizes.{copied_size}
use Rattle.log_recovery.proofs.view.sized_body_in.Goals as goal

pub returns-clause-size : goal.returns-clause-size
returns-clause-size c = copied_size c.args.bodies.now c.args.block c.body_in.result c.requires.sized c.body_in.ensures
