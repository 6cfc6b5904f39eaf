use Rattle.space_model.proofs.Searching.{put_is}
use Rattle.plan_space.proofs.free_bits.BitSetFreeBits.take.Goals as goal

pub returns-clause-taken : goal.returns-clause-taken
returns-clause-taken c = put_is c.args.self.now c.set_run.new.self c.args.first c.args.len c.set_run.ensures
