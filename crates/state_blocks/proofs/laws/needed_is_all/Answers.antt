use Rattle.plan_owners.proofs.Agreed.{stands_now, tree_now}
use Rattle.state_blocks.proofs.Needing.{agree_owned, needed_before, bytes_same, records_same, clusters_same, units_same}
use Rattle.state_blocks.proofs.laws.needed_is_all.Goals as goal

pub returns : goal.returns
returns c = record {
  owned = agree_owned;
  stands = λ c d g clusters v s k. stands_now c d g clusters v s (agree_owned c d v k);
  tree = λ c d g clusters v s k. tree_now c d g clusters v s (agree_owned c d v k);
  needed = λ c d g clusters v b s k is. needed_before c d g clusters v s k b is;
  bytes = λ c d g clusters v n s k. bytes_same c d g clusters v s k n;
  records = records_same;
  clusters = clusters_same;
  upper = units_same;
}
