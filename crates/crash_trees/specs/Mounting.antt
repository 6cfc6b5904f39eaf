-- What a crash leaves of a volume mounts, as one of its trees.
use Rattle.std.specs.Prelude.{◌≡◌, ◌⊎◌, ℕ, suc, ◌-◌, ◌≤◌, max, List, ◌∷◌, slice_get, Option, Some, Result, Ok}
use Rattle.host_base.specs.declared.outside.Failed.{Failed}
use Rattle.disk_model.specs.declared.block.Change.{Change}
use Rattle.disk_model.specs.Sectors.{sector_of}
use Rattle.sector_device.specs.Moments.{Changes, MayLeaveNow, LeftSince}
use Rattle.file_tree.specs.declared.tree.Tree.{Tree}
use Rattle.crash_mounts.specs.map_change.Parts.{MapParts}
use Rattle.crash_mounts.specs.volume_mount.Mounts.{MountedVolume, tree_in, mounted_of}
use Rattle.store_claims.specs.Windows.{StoreWindow}
use Rattle.flush_policy.specs.declared.facts.StoreStep.{StoreStep}
use Rattle.crash_mounts.specs.txn_model.Values.{StoreFacts}
use Rattle.crash_mounts.specs.txn_laws.Windows.{Simulates, lap_behind}
use Rattle.crash_mounts.specs.txn_mount.Mountable.{IsFar}
use Rattle.crash_mounts.specs.txn_state.States.{StateOf}
use Rattle.crash_mounts.specs.txn_core.Steps.{AfterTurn}
use Rattle.crash_mounts.specs.state_store.declared.fault.PutFault.{PutFault}
use Rattle.crash_mounts.specs.state_store.Puts.{PutsOver}
use Rattle.resting_states.specs.found_stays.Found.{StaysOver}
use Rattle.crash_trees.specs.Trees.{HoldsTrees}

-- The image mounts, as the tree so many commits back, at most so many.
pub record MountsAsOne (trees : List Tree) (most : ℕ) (image : List (List ℕ)) : Type 0 where
  pub back : ℕ
  pub within : back ≤ most
  pub tree : Tree
  pub is_tree : slice_get trees back ≡ Some tree
  pub now : MountedVolume
  pub mounts : mounted_of image ≡ Ok now
  pub stands : tree_in now ≡ tree

-- Whatever a crash leaves of a volume that holds trees mounts as one of those which are not known durable, or as the newest one that is, where the laps of its log don't come near their end.
pub record TreesMount : Type 0 where
  -- between two calls: so does each image that a crash may leave now
  pub at_return : (count : ℕ) (changes : Changes) (f : StoreFacts) (first : List (List ℕ)) (mounted : MountedVolume) (m : MapParts) (table : List ℕ) (disk : List (List ℕ)) (trees : List Tree) (w : StoreWindow) (image : List (List ℕ)) → HoldsTrees count changes f first mounted m table disk trees w
      → IsFar f.place (lap_behind f) → MayLeaveNow count changes image → MountsAsOne trees (f.commits - f.durable) image
  -- inside a step of the store, and behind it: so does each that counts as left since t, unless it counted so before
  pub turn_leaves : (count moment : ℕ) (old now : Changes) (f g : StoreFacts) (first : List (List ℕ)) (mounted : MountedVolume) (m : MapParts) (table : List ℕ) (disk : List (List ℕ)) (trees : List Tree) (w : StoreWindow) (step : StoreStep) (result : Result (Unit {0}) Failed) (t : ℕ) (image : List (List ℕ))
      → HoldsTrees count old f first mounted m table disk trees w → Simulates count moment old now f g (AfterTurn step result f) → StaysOver count f.found (sector_of first) old now → IsFar f.place (max (lap_behind f) (lap_behind g)) → t ≤ moment → LeftSince count now t image
      → LeftSince count old t image ⊎ MountsAsOne trees (f.commits - f.durable) image
  -- where changes are put nothing else is left
  pub put_leaves : (result : Result (Unit {0}) PutFault) (count : ℕ) (gives gave : Option (List (List ℕ))) (before now : Changes) (old new : StateOf) (m next : MapParts) (xs : List Change) (t : ℕ) (image : List (List ℕ)) → PutsOver result xs gives gave old new before now m next
      → LeftSince count now t image → LeftSince count before t image
  -- what mounts as one of them does so behind more commits, or where more count
  pub later : (tree : Tree) (trees : List Tree) (most : ℕ) (image : List (List ℕ)) → MountsAsOne trees most image → MountsAsOne (tree ∷ trees) (suc most) image
  pub more : (trees : List Tree) (most n : ℕ) (image : List (List ℕ)) → most ≤ n → MountsAsOne trees most image → MountsAsOne trees n image
