-- The tree that a new volume stands for.
use Rattle.std.specs.Prelude.{◌≡◌, ℕ, ◌<◌, ◌^◌, false, if◌then◌else◌, [], map, None, Ok}
use Rattle.std.specs.List.{range_with_len}
use Rattle.host_base.specs.declared.file_ref.FileRef.{FileRef}
use Rattle.disk_model.specs.Content.{Content}
use Rattle.file_tree.specs.declared.node.Kind.TheVariants.{Directory, System}
use Rattle.file_tree.specs.declared.node.Node.{Node}
use Rattle.file_tree.specs.declared.tree.Tree.{Tree}
use Rattle.volume_state.specs.Trees.{Holds, checked, IsState}
use Rattle.format_files.specs.volume_format.declared.layout.Layout.{Layout}
use Rattle.format_files.specs.volume_format.Layouts.{IsLayout, room}
use Rattle.format_files.specs.volume_format.Files.{sequence, is_directory}
use Rattle.format_files.specs.format_blocks.Blocks.{HasBlocks}
use Rattle.format_files.specs.Volumes.{new_geometry, new_link, new_volume}

-- a system file: the root and `$Extend` are directories; none shows its bytes, and all are hidden and of the system
abbrev pub new_node : ℕ → ℕ → Node
new_node time n = record {
  number = n;
  seq = sequence n;
  kind = if is_directory n then Directory else System;
  why = None;
  held = false;
  size = 0;
  valid = 0;
  clusters = 0;
  bytes = [];
  flags = 6;
  created = time;
  modified = time;
  changed = time;
  read_at = time;
}

-- a record for a new file
abbrev pub new_spare : ℕ → FileRef
new_spare n = record { number = n; seq = 1 }

-- The twelve system files with their names; the records 24 to 63 are for new files, and all clusters after the used ones
-- are free.
abbrev pub new_tree : Layout → ℕ → Tree
new_tree v time = record {
  nodes = map (new_node time) (range_with_len 0 12);
  links = map new_link (range_with_len 0 12);
  spare = map new_spare (range_with_len 24 40);
  count = 64;
  journal = None;
  room = room v;
}

-- a volume that was loaded as a new one breaks no rule and stands for that tree, as its content does, and a check of it answers the tree
pub record StandsForTree (v : Layout) (time : ℕ) (c : Content) : Type 0 where
  pub state : IsState c new_geometry v.clusters (new_tree v time)
  pub holds : Holds c (new_volume v time) (new_tree v time)
  pub answer : checked c (new_volume v time) ≡ Ok (new_tree v time)

abbrev pub LoadedVolumeStands : Type 0
LoadedVolumeStands = (v : Layout) (seed time : ℕ) (c : Content) → IsLayout v → time < 2 ^ 64 → HasBlocks v seed time c → StandsForTree v time c
