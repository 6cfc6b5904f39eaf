-- The tree of a mounted volume over the sectors of its device.
use Rattle.std.specs.Prelude.{ℕ, List, Option}
use Rattle.std.specs.Option.{option_map}
use Rattle.disk_model.specs.Content.{Content}
use Rattle.file_tree.specs.declared.tree.Tree.{Tree}
use Rattle.volume_shadows.specs.log_recovery.Recovering.{content_with}
use Rattle.image_read.specs.device_view.Devices.{content_of_sectors}
use Rattle.image_read.specs.volume_map.Maps.{volume_in}
use Rattle.volume_lookup.specs.Known.{known_tree}
use Rattle.volume_mount.specs.declared.mounted.Mounted.{Mounted}

-- the content of its disk with the bodies that recovery found
abbrev pub content_of_mounted : Mounted → Content → Content
content_of_mounted m c = content_with m.opening.found.recovered.blocks.bodies.items c

-- The tree of a mounted volume over this content of a disk: that of the content with these bodies, where the content is known, the volume
-- breaks no rule there and its table of upper-case units is the one that was read.
abbrev pub tree_over : Mounted → Option Content → Option Tree
tree_over m known = known_tree m.upper (volume_in m.map) (option_map (content_of_mounted m) known)

-- the same over the sectors of a device
abbrev pub tree_shown : Mounted → Option (List (List ℕ)) → Option Tree
tree_shown m gives = tree_over m (content_of_sectors gives)
