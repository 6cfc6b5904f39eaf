-- A volume that is opened for operations.
use Rattle.std.specs.Prelude.{◌≡◌, ℕ, List, [], ◌∷◌, Option, Some, Ok}
use Rattle.sector_device.specs.Moments.{Changes}
use Rattle.map_change.specs.Parts.{parts_of}
use Rattle.volume_core.specs.volume_mount.Mounts.{MountedVolume, upper_in, tree_in, mounted_of}
use Rattle.txn_state.specs.States.{facts_of}
use Rattle.volume_core.specs.Volumes.{SeenVolume, volume_tree}
use Rattle.volume_core.specs.Histories.{HasHistory, undurable}
use Rattle.volume_start.specs.Starts.{BeginsLog}

-- The first sectors mount as a volume, whose map and table of upper-case units the opened one has. Its tree is the one that a crash may bring back, and that of the present content; no operation of it isn't
-- known durable; and the session of its store begins where the volume's log ends.
pub record IsOpened {D : Type 0} (gives : D → Option (List (List ℕ))) (count : D → ℕ) (changes : D → Changes) (first : List (List ℕ)) (v : SeenVolume D) : Type 0 where
  pub mounted : MountedVolume
  pub mounts : mounted_of first ≡ Ok mounted
  pub history : HasHistory gives count changes v first (tree_in mounted ∷ [])
  pub tree : volume_tree gives v ≡ Some (tree_in mounted)
  pub durable : undurable v ≡ 0
  pub map : v.map ≡ parts_of mounted.content mounted.volume
  pub table : v.table ≡ upper_in mounted
  pub log : BeginsLog mounted (facts_of v.store.state)
