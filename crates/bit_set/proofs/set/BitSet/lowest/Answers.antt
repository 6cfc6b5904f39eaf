use Rattle.bit_set.proofs.Searches.{lowest_of_all}
use Rattle.bit_set.proofs.set.BitSet.lowest.Goals as goal

pub returns : goal.returns
returns c = lowest_of_all c.args.self.now c.args.from c.bits.result c.first_run_in.result c.bits.ensures c.first_run_in.ensures
