use Rattle.std.proofs.Common.{ap, ◌∙◌}
use Rattle.store_pools.specs.Pools.{bodies_of, marks_of}
use Rattle.store_pools.proofs.Syncs.{buried_bodies, synced_marks}
use Rattle.store_pools.proofs.syncing.settle.Goals as goal

pub returns-clause-bodies : goal.returns-clause-bodies
returns-clause-bodies c = ap bodies_of c.drop_where.ensures ∙ buried_bodies c.args.pages c.args.marks.now c.args.bodies.now

pub returns-clause-marks : goal.returns-clause-marks
returns-clause-marks c = ap marks_of c.turn_all.ensures ∙ synced_marks c.args.pages c.args.marks.now
