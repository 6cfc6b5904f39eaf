use Rattle.bit_set.proofs.Searches.{first_run_of_all}
use Rattle.bit_set.proofs.set.BitSet.first_run.Goals as goal

pub returns : goal.returns
returns c = first_run_of_all c.args.self.now c.args.len c.bits.result c.first_run_in.result c.bits.ensures c.first_run_in.ensures
