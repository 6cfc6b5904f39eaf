use Rattle.std.proofs.Common.{refl}
use Rattle.file_tree.specs.Names.{upper_units, name_order, same_name}
use Rattle.file_tree.specs.Trees.{node_at, is_directory, same_links, look_up}
use Rattle.file_tree.specs.Walks.{child_in, has_bad_part, passes_system}
use Rattle.tree_model.specs.Walks.{entered, walk, reached, reached_directory}
use Rattle.tree_model.specs.Refusals.{parent_of, is_system_node}
use Rattle.tree_model.specs.Fronts.{front_of}
use Rattle.tree_model.proofs.laws.worked_reads.Goals as goal

pub returns : goal.returns
unfolding front_of upper_units name_order same_name node_at is_directory same_links look_up child_in has_bad_part entered walk reached reached_directory parent_of passes_system is_system_node
returns c = record {
  root = refl;
  below_file = refl;
  system = refl;
  fixed = refl;
  file = refl;
  inside = refl;
  up_to_size = refl;
  behind = refl;
}
