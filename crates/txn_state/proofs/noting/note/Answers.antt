use Rattle.std.proofs.Common.{ap, ◌∙◌}
use Rattle.txn_log.specs.store_pools.Pools.{marks_of}
use Rattle.txn_state.proofs.Turning.{noted_marks}
use Rattle.txn_state.proofs.noting.note.Goals as goal

pub returns : goal.returns
returns c = ap marks_of c.turn_all.ensures ∙ noted_marks c.args.marks.now
