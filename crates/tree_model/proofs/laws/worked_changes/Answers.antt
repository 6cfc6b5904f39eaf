use Rattle.std.proofs.Common.{refl}
use Rattle.file_tree.specs.Names.{upper_units, name_order, same_name}
use Rattle.file_tree.specs.Trees.{node_at, is_directory, same_links, look_up}
use Rattle.file_tree.specs.Walks.{child_in, has_bad_part, passes_system}
use Rattle.tree_model.specs.Walks.{entered, walk, reached, reached_directory}
use Rattle.tree_model.specs.Refusals.{parent_of, is_system_node}
use Rattle.tree_model.proofs.laws.worked_changes.Goals as goal

pub returns : goal.returns
unfolding upper_units name_order same_name node_at is_directory same_links look_up child_in has_bad_part entered walk reached reached_directory parent_of passes_system is_system_node
returns c = record {
  root = refl;
  directory = refl;
  system = refl;
  fixed = refl;
  far = refl;
  from_valid = refl;
  room = refl;
  enough = refl;
  shrinking = refl;
  no_bytes = refl;
  same_size = refl;
}
