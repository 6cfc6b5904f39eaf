-- The image of a new volume stands for its tree.
use Rattle.std.specs.Prelude.{◌≡◌, ℕ, List, length, Ok}
use Rattle.format_rules.specs.volume_format.Layouts.{layout_of}
use Rattle.format_rules.specs.volume_format.Images.{formatted}
use Rattle.image_read.specs.Checks.{check_of}
use Rattle.image_read.specs.States.{StandsFor}
use Rattle.format_rules.specs.format_blocks.Regions.{CanFormat}
use Rattle.format_rules.specs.Trees.{new_tree}

-- a check of a device that was formatted answers the tree of the twelve system files, with all clusters after them free
abbrev pub NewVolumeStands : Type 0
NewVolumeStands = (old : List (List ℕ)) (seed time : ℕ) → CanFormat old seed time → check_of (formatted old seed time) ≡ Ok (new_tree (layout_of (length old)) time)

-- and its image stands for this tree
abbrev pub NewImageStandsFor : Type 0
NewImageStandsFor = (old : List (List ℕ)) (seed time : ℕ) → CanFormat old seed time → StandsFor (formatted old seed time) (new_tree (layout_of (length old)) time)
