-- The trees that a crash may bring back of a volume, where changes are put.
use Rattle.std.specs.Prelude.{◌≡◌, ℕ, List, [], ◌∷◌, slice_get, Option, Some, Result, Ok, Err}
use Rattle.std.specs.List.{AllByRecursion}
use Rattle.disk_model.specs.declared.block.Change.{Change}
use Rattle.disk_model.specs.Content.{Content}
use Rattle.sector_device.specs.Moments.{Changes}
use Rattle.file_tree.specs.declared.tree.Tree.{Tree}
use Rattle.block_view.specs.Changes.{content_after}
use Rattle.volume_model.specs.Owners.{uses}
use Rattle.volume_state.specs.Trees.{tree_of}
use Rattle.stream_laws.specs.Sharing.{stream_at, runs_in}
use Rattle.crash_mounts.specs.map_change.Parts.{MapParts}
use Rattle.crash_mounts.specs.plan_owners.Agreeing.{log_key}
use Rattle.crash_mounts.specs.plan_owners.Kinds.{cluster_of}
use Rattle.crash_mounts.specs.volume_mount.Mounts.{MountedVolume}
use Rattle.store_claims.specs.Windows.{StoreWindow}
use Rattle.crash_mounts.specs.txn_model.Values.{StoreFacts}
use Rattle.crash_mounts.specs.txn_state.States.{StateOf, facts_of}
use Rattle.crash_mounts.specs.txn_core.Views.{present_on}
use Rattle.crash_mounts.specs.state_store.declared.fault.PutFault.{PutFault}
use Rattle.crash_mounts.specs.state_store.Changes.{LeadsOn}
use Rattle.crash_mounts.specs.state_store.Windows.{AfterPutting}
use Rattle.crash_mounts.specs.state_store.Puts.{PutsOver}
use Rattle.crash_mounts.specs.volume_mount.Welcome.{IsWelcome}
use Rattle.resting_states.specs.Puts.{AreAsked}
use Rattle.crash_trees.specs.Trees.{HoldsTrees, HoldsTreesBy}

-- ---- the present state

-- What the volume reads of its store is a state that a mount takes, whose tree is the newest one, and whose log has the clusters that the mounted volume's has.
pub record ShowsNewest (f : StoreFacts) (mounted : MountedVolume) (m : MapParts) (disk : List (List ℕ)) (trees : List Tree) : Type 0 where
  pub newest : slice_get trees 0 ≡ Some (tree_of (present_on disk f) m.volume)
  pub welcome : IsWelcome (present_on disk f) m.volume
  pub log : runs_in (stream_at m.volume log_key) ≡ runs_in (stream_at mounted.volume log_key)

-- a volume that holds trees shows the newest of them
abbrev pub TreesShow : Type 0
TreesShow = (count : ℕ) (changes : Changes) (f : StoreFacts) (first : List (List ℕ)) (mounted : MountedVolume) (m : MapParts) (table : List ℕ) (disk : List (List ℕ)) (trees : List Tree) (w : StoreWindow) → HoldsTrees count changes f first mounted m table disk trees w → ShowsNewest f mounted m disk trees

-- ---- changes

-- The changes lie off the clusters of the volume's log, which keeps its clusters; and where a mount takes the state at which they begin, it takes the one to which they lead.
pub record KeepsWelcome (c : Content) (m : MapParts) (table : List ℕ) (xs : List Change) (leads : LeadsOn m table xs c) : Type 0 where
  pub apart : AllByRecursion (λ x. uses (runs_in (stream_at m.volume log_key)) (cluster_of x.block) ≡ 0) xs
  pub log : runs_in (stream_at leads.volume log_key) ≡ runs_in (stream_at m.volume log_key)
  pub welcome : IsWelcome c m.volume → IsWelcome (content_after xs c) leads.volume

-- the trees behind changes: one more where some were put
abbrev pub trees_after : {E : Type 0} → Result (Unit {0}) E → List Change → Tree → List Tree → List Tree
trees_after (Ok u) [] tree trees = trees
trees_after (Ok u) (x ∷ xs) tree trees = tree ∷ trees
trees_after (Err e) xs tree trees = trees

-- Behind such changes, whether they were put or not, the volume rests with the map that is kept then, over the same sectors; where they were put, its trees have one more, that of what it reads then.
abbrev pub TreesPut : Type 0
TreesPut = (result : Result (Unit {0}) PutFault) (count : ℕ) (gives gave : Option (List (List ℕ))) (before now : Changes) (old new : StateOf) (first : List (List ℕ)) (mounted : MountedVolume) (m next : MapParts) (table : List ℕ) (disk : List (List ℕ)) (trees : List Tree) (xs : List Change) (w : StoreWindow)
    → HoldsTrees count before (facts_of old) first mounted m table disk trees w → (asked : AreAsked old m table disk xs) → KeepsWelcome (present_on disk (facts_of old)) m table xs asked.leads → gives ≡ Some disk → PutsOver result xs gives gave old new before now m next
    → HoldsTreesBy count now (facts_of new) first mounted next table disk (trees_after result xs (tree_of (present_on disk (facts_of new)) next.volume) trees) (AfterPutting result xs w)
