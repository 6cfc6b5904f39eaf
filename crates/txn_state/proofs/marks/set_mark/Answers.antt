use Rattle.std.proofs.Common.{ap, ◌∙◌}
use Rattle.txn_log.specs.store_pools.Pools.{marks_of}
use Rattle.txn_state.proofs.Turning.{set_marks}
use Rattle.txn_state.proofs.marks.set_mark.Goals as goal

pub returns : goal.returns
returns c = ap marks_of c.replace.ensures.new ∙ set_marks c.args.block c.args.mark c.args.marks.now
