-- The tree that an image stands for, as a check reports it; or the first refusal that applies.
use Rattle.std.specs.Prelude.{ℕ, List, Result}
use Rattle.host_base.specs.Answers.{◌>>=◌, needs}
use Rattle.disk_model.specs.Content.{Content}
use Rattle.volume_links.specs.record_model.declared.values.VolumeInfo.{VolumeInfo}
use Rattle.file_tree.specs.declared.tree.Tree.{Tree}
use Rattle.image_open.specs.state_model.declared.geometry.Geometry.{Geometry}
use Rattle.volume_check.specs.volume_model.Volumes.{Volume, volume_of}
use Rattle.volume_check.specs.volume_state.Versions.{volume_info, is_known}
use Rattle.volume_check.specs.volume_state.Trees.{checked}
use Rattle.image_open.specs.declared.refusal.Refusal.{Refusal}
use Rattle.image_open.specs.declared.refusal.Refusal.TheVariants.{Version}
use Rattle.image_open.specs.Errors.{map_refusal, refused_as}
use Rattle.image_open.specs.Volumes.{in_volume, on_disk}
use Rattle.image_read.specs.Errors.{broken_refusal}

-- ---- the volume

-- the volume of a content, its refusals as those of the image
unfoldable pub volume_on : Content → Geometry → ℕ → Result Volume Refusal
volume_on c g total = refused_as map_refusal (volume_of c g total)

-- the volume information is 3.1
abbrev pub judged_version : VolumeInfo → Result (Unit {0}) Refusal
judged_version info = needs (is_known info) (Version info.major info.minor)

unfoldable pub has_version : Volume → Result (Unit {0}) Refusal
has_version v = judged_version (volume_info v)

-- the tree, without the bytes of its nodes and the records of its journal, of a volume that breaks none of the nine rules;
-- or the first rule that it breaks, with its least number
unfoldable pub tree_on : Content → Volume → Result Tree Refusal
tree_on c v = refused_as broken_refusal (checked c v)

-- the version comes before the rules
unfoldable pub volume_tree : Content → Volume → Result Tree Refusal
volume_tree c v = has_version v >>= λ _. tree_on c v

-- what is meant of the volume of a content, of this geometry and so many clusters
abbrev pub loaded_in : {X : Type 0} → (Content → Volume → Result X Refusal) → Content → Geometry → ℕ → Result X Refusal
loaded_in meant c g total = volume_on c g total >>= meant c

-- ---- the image

-- the tree of a content on a device of so many sectors
unfoldable pub check_in : Content → ℕ → Result Tree Refusal
check_in c sectors = in_volume (loaded_in volume_tree) c sectors

-- The tree that the volume on these sectors stands for once it is recovered, without the bytes of its nodes and the records of its journal; or
-- the first refusal that applies: by the boot sector, by record 2 and the log, by the records of the file table, by the
-- version, and by the nine rules of a volume.
unfoldable pub check_of : List (List ℕ) → Result Tree Refusal
check_of disk = on_disk check_in disk
