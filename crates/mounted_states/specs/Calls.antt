-- What the mount of a store leaves of the blocks by which a mounted volume's log is found.
use Rattle.std.specs.Prelude.{◌≡◌, ℕ, List, Option, Ok}
use Rattle.disk_model.specs.declared.block.Block.{Block}
use Rattle.disk_model.specs.Content.{Content}
use Rattle.sector_device.specs.Moments.{Changes}
use Rattle.log_page.specs.declared.places.LogPlace.{LogPlace}
use Rattle.store_model.specs.Geometry.{SectorBytes}
use Rattle.safe_blocks.specs.volume_mount.Mounts.{MountedVolume, mounted_in}
use Rattle.txn_model.specs.Values.{StoreFacts}
use Rattle.stays_at_mount.specs.txn_mount.declared.fault.StoreFault.{StoreFault}
use Rattle.stays_at_mount.specs.txn_mount.Mounts.{IsMounted, StopsMount}
use Rattle.resting_states.specs.found_stays.Found.{AreOffLog, StaysOver}
use Rattle.safe_blocks.specs.Safe.{IsStoreOf}

-- the blocks by which the log of a mounted volume is found lie off it
abbrev pub FoundLieOff : Type 0
FoundLieOff = (c : Content) (sectors : ℕ) (m : MountedVolume) (f : StoreFacts) → mounted_in c sectors ≡ Ok m → IsStoreOf f m → AreOffLog f.place f.found

-- So the mount of a store leaves their sectors, whether it ends well or is stopped; and each image that is left counted so before, or bears what was there.
pub record StoresKeepFound {D : Type 0} (gives : D → Option (List (List ℕ))) (count : D → ℕ) (changes : D → Changes) (faults moment : D → ℕ) : Type 0 where
  pub done : (place : LogPlace) (kept : List Block) (store : StoreFacts) (first : SectorBytes) (old new : D) → AreOffLog place kept → IsMounted gives count changes faults moment place kept old new store
      → StaysOver (count old) kept first (changes old) (changes new)
  pub stopped : (place : LogPlace) (kept : List Block) (fault : StoreFault) (first : SectorBytes) (old new : D) → AreOffLog place kept → StopsMount gives count changes faults moment place kept fault old new
      → StaysOver (count old) kept first (changes old) (changes new)
