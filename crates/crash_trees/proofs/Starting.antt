-- A volume whose store begins over a state that a mount takes holds its tree.
use Rattle.std.proofs.Common.{◌≡◌, ℕ, zero, suc, ◌≤◌, List, [], ◌∷◌, Some, refl, arith}
use Rattle.std.specs.Prelude.{slice_get}
use Rattle.disk_model.specs.Sectors.{sector_of}
use Rattle.sector_device.specs.Moments.{Changes}
use Rattle.file_tree.specs.declared.tree.Tree.{Tree}
use Rattle.volume_state.specs.Trees.{tree_of}
use Rattle.crash_mounts.specs.map_change.Parts.{MapParts}
use Rattle.crash_mounts.specs.state_blocks.Needing.{NeededIsAll}
use Rattle.crash_mounts.specs.volume_mount.Mounts.{MountedVolume}
use Rattle.crash_mounts.specs.txn_state.States.{StateOf, facts_of}
use Rattle.crash_mounts.specs.txn_core.Views.{present_on}
use Rattle.crash_mounts.specs.Mounting.{base_behind}
use Rattle.resting_states.specs.Resting.{RestsBy}
use Rattle.resting_states.specs.Starts.{IsAlone, StartsRest}
use Rattle.crash_trees.specs.Trees.{StandsForTree, HoldsTreesBy}
use Rattle.crash_trees.specs.Starts.{BeginsAsMounted, TreesStart}
use Rattle.crash_trees.proofs.Reading.{newest_for}
use Rattle.crash_trees.proofs.Claiming.{all_claimed}

module _ (law : NeededIsAll) (count : ℕ) (changes : Changes) (state : StateOf) (first : List (List ℕ)) (mounted : MountedVolume) (m : MapParts) (table : List ℕ) (disk : List (List ℕ)) (begins : BeginsAsMounted count changes state first mounted m table disk)
    (r : RestsBy count changes (facts_of state) (sector_of first) m table disk IsAlone) where
  abbrev tree : Tree
  tree = tree_of (present_on disk (facts_of state)) m.volume

  each : (k : ℕ) → k ≤ r.window.waiting → (t : Tree) × (slice_get (tree ∷ []) k ≡ Some t) × StandsForTree (base_behind first mounted (facts_of state).place) mounted r.window k t
  each zero low = (tree, refl, newest_for law count changes (facts_of state) first mounted m table disk r.window r.rests begins.mount begins.welcome begins.log)
  each (suc k) low = (let none = r.follows.none in absurd (omega (arith, low, none)))

  held : HoldsTreesBy count changes (facts_of state) first mounted m table disk (tree ∷ []) IsAlone
  held = record {
    window = r.window;
    follows = r.follows;
    holds = record { rests = r.rests; mount = begins.mount; each = each; claims = all_claimed mounted.volume r.window.claimed r.follows.claimed };
  }

pub trees_start : NeededIsAll → StartsRest → TreesStart
trees_start law starts count changes state first mounted m table disk begins = held law count changes state first mounted m table disk begins (starts count changes state (sector_of first) m table disk begins.begins)
