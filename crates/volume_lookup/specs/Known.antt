-- The tree of a volume that is asked, where it is known.
use Rattle.std.specs.Prelude.{ℕ, Bool, true, false, ◌&&◌, if◌then◌else◌, List, Option, Some, None}
use Rattle.disk_model.specs.Content.{Content}
use Rattle.file_tree.specs.Names.{same_units}
use Rattle.file_tree.specs.declared.tree.Tree.{Tree}
use Rattle.record_rules.specs.state_model.declared.broken.Broken.{Broken}
use Rattle.volume_tree.specs.volume_model.Volumes.{Volume, upper_of}
use Rattle.volume_tree.specs.volume_state.Rules.{first_broken}
use Rattle.volume_tree.specs.volume_state.Trees.{tree_of}

abbrev pub is_unbroken : Option Broken → Bool
is_unbroken None = true
is_unbroken (Some broken) = false

-- the volume breaks no rule, and this is its table of upper-case units
unfoldable pub is_asked_so : List ℕ → Volume → Content → Bool
is_asked_so upper v c = is_unbroken (first_broken c v) && same_units upper (upper_of c v)

-- then its tree is known, where the content is
abbrev pub known_tree : List ℕ → Volume → Option Content → Option Tree
known_tree upper v None = None
known_tree upper v (Some c) = if is_asked_so upper v c then Some (tree_of c v) else None
