use Rattle.tree_laws.proofs.Changing.{all_keep, all_but, places_ways, changed_holds, untouched_node, untouched_spare}
use Rattle.tree_laws.proofs.Climbing.{nodes_by_others}
use Rattle.tree_laws.proofs.Parting.{spare_by_others}
use Rattle.tree_laws.proofs.laws.files_changed.Goals as goal

pub returns : goal.returns
returns c = record {
  all_keep = all_keep;
  all_but = all_but;
  ways = places_ways;
  holds = changed_holds;
  node = untouched_node;
  spare = untouched_spare;
  nodes_but = nodes_by_others;
  spare_but = spare_by_others;
}
