-- A volume whose store begins over the state that was mounted.
use Rattle.std.specs.Prelude.{◌≡◌, ℕ, List, [], ◌∷◌}
use Rattle.disk_model.specs.Sectors.{sector_of}
use Rattle.sector_device.specs.Moments.{Changes}
use Rattle.volume_state.specs.Trees.{tree_of}
use Rattle.stream_laws.specs.Sharing.{stream_at, runs_in}
use Rattle.crash_mounts.specs.map_change.Parts.{MapParts}
use Rattle.crash_mounts.specs.plan_owners.Agreeing.{log_key}
use Rattle.crash_mounts.specs.volume_mount.Mounts.{MountedVolume}
use Rattle.crash_mounts.specs.txn_state.States.{StateOf, facts_of}
use Rattle.crash_mounts.specs.txn_core.Views.{present_on}
use Rattle.crash_mounts.specs.volume_mount.Welcome.{IsWelcome}
use Rattle.resting_states.specs.Starts.{BeginsAtRest, IsAlone}
use Rattle.crash_trees.specs.Trees.{IsMountedOn, HoldsTreesBy}

-- A store begins at rest over a mounted volume, on a device that gives a state which a mount takes, and whose log has the clusters that the mounted volume's has.
pub record BeginsAsMounted (count : ℕ) (changes : Changes) (state : StateOf) (first : List (List ℕ)) (mounted : MountedVolume) (m : MapParts) (table : List ℕ) (disk : List (List ℕ)) : Type 0 where
  pub begins : BeginsAtRest count changes state (sector_of first) m table disk
  pub mount : IsMountedOn count (facts_of state) first mounted m
  pub welcome : IsWelcome (present_on disk (facts_of state)) m.volume
  pub log : runs_in (stream_at m.volume log_key) ≡ runs_in (stream_at mounted.volume log_key)

-- Then the volume over it rests, and its one tree is that of this state.
abbrev pub TreesStart : Type 0
TreesStart = (count : ℕ) (changes : Changes) (state : StateOf) (first : List (List ℕ)) (mounted : MountedVolume) (m : MapParts) (table : List ℕ) (disk : List (List ℕ)) → BeginsAsMounted count changes state first mounted m table disk
    → HoldsTreesBy count changes (facts_of state) first mounted m table disk (tree_of (present_on disk (facts_of state)) m.volume ∷ []) IsAlone
