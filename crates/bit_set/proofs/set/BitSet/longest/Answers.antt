use Rattle.bit_set.proofs.Searches.{longest_run_of_all}
use Rattle.bit_set.proofs.set.BitSet.longest.Goals as goal

pub returns : goal.returns
returns c = longest_run_of_all c.args.self.now c.bits.result c.longest_in.result c.bits.ensures c.longest_in.ensures
