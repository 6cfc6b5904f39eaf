use Rattle.std.proofs.Common.{refl}
use Rattle.file_tree.specs.Names.{upper_units, name_order, same_name}
use Rattle.file_tree.specs.Trees.{node_at, is_directory, same_links, look_up}
use Rattle.file_tree.specs.Walks.{child_in, has_bad_part, passes_system}
use Rattle.tree_model.specs.Walks.{entered, walk, reached, reached_directory}
use Rattle.tree_model.specs.Refusals.{is_bad_new_path, parent_of, is_system_node, has_same_name}
use Rattle.tree_model.proofs.laws.worked_names.Goals as goal

pub returns : goal.returns
unfolding upper_units name_order same_name node_at is_directory same_links look_up child_in has_bad_part entered walk reached reached_directory is_bad_new_path parent_of passes_system is_system_node has_same_name
returns c = record {
  slash = refl;
  dot = refl;
  dots = refl;
  slash_in_name = refl;
  missing = refl;
  below_file = refl;
  in_system = refl;
  other_case = refl;
  table = refl;
  room = refl;
  enough = refl;
  room_for_table = refl;
  enough_for_table = refl;
}
