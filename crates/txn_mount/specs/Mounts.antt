-- What a mount that writes answers, and what stands then.
use Rattle.std.specs.Prelude.{◌≡◌, ◌⊎◌, ℕ, List, map, Option, Some, Result, Ok, Err, IfSome}
use Rattle.std.specs.List.{IsDistinct}
use Rattle.host_base.specs.declared.outside.Failed.{Failed}
use Rattle.disk_model.specs.declared.block.Block.{Block}
use Rattle.disk_model.specs.Content.{content_of}
use Rattle.disk_model.specs.Sectors.{same_block}
use Rattle.sector_device.specs.Disks.{Disk, IsSettled, seen}
use Rattle.sector_device.specs.Moments.{Changes}
use Rattle.log_recovery.specs.device_view.Devices.{KeepsDevice}
use Rattle.log_model.specs.declared.entry.Entry.{Entry}
use Rattle.txn_core.specs.log_page.declared.places.LogPlace.{LogPlace}
use Rattle.log_recovery.specs.declared.found.Shadow.{Shadow}
use Rattle.log_recovery.specs.declared.writing.ToWrite.{ToWrite}
use Rattle.log_recovery.specs.LogStates.{LogState}
use Rattle.log_recovery.specs.Recovering.{held_lsn, shadow_block, shadow_lsn}
use Rattle.log_recovery.specs.Writing.{state_with, to_write_in}
use Rattle.txn_core.specs.ring_laws.PageBytes.{raw_page}
use Rattle.txn_core.specs.ring_laws.RestartPages.{said_restart}
use Rattle.txn_core.specs.txn_laws.Mounting.{HasMounted}
use Rattle.txn_core.specs.txn_laws.Windows.{HasStart}
use Rattle.txn_core.specs.txn_model.Calls.{first_facts}
use Rattle.txn_core.specs.txn_model.Values.{StoreFacts}
use Rattle.txn_mount.specs.declared.fault.StoreFault.{StoreFault}
use Rattle.txn_mount.specs.declared.fault.StoreFault.TheVariants.{Fault}
use Rattle.txn_mount.specs.declared.puts.PutOut.{PutOut}
use Rattle.txn_mount.specs.Contents.{mounted_content}
use Rattle.txn_mount.specs.Images.{LeavesAlike, OneIsNewer}
use Rattle.txn_mount.specs.Laws.{MayMount, MountsAs}
use Rattle.txn_mount.specs.Plans.{bodies_in, items_by, area_behind}
use Rattle.txn_mount.specs.Puts.{AreKeys}

-- ---- the calls of the device

-- The device is only read, by which this is found; then the blocks with a body that may be put out are, by rising first sector, and the new session's first restart page is
-- written, with a sync behind each. On a known disk what is found is what the log says, and all is put out that is to be.
pub record ReadsAndWrites {D : Type 0} (gives : D → Option (List (List ℕ))) (count : D → ℕ) (changes : D → Changes) (faults moment : D → ℕ) (place : LogPlace) (kept : List Block) (found : ToWrite) (result : Result (Unit {0}) Failed) (old new : D) : Type 0 where
  pub keys : List PutOut
  pub chosen : AreKeys (count old) (bodies_in found) keys
  pub list : List Entry
  pub may : IfSome (changes old).disk (MayMount place kept (state_with list found.recovered) (items_by found keys))
  pub mid : D
  pub reads : KeepsDevice gives count changes faults moment old mid
  pub writes : MountsAs gives changes moment place (state_with list found.recovered) (items_by found keys) result mid new

-- all of it went well, and the store is at its start, over a session that was opened by what was found
pub record IsMounted {D : Type 0} (gives : D → Option (List (List ℕ))) (count : D → ℕ) (changes : D → Changes) (faults moment : D → ℕ) (place : LogPlace) (kept : List Block) (old new : D) (store : StoreFacts) : Type 0 where
  pub found : ToWrite
  pub calls : ReadsAndWrites gives count changes faults moment place kept found (Ok tt) old new
  pub start : store ≡ first_facts place (area_behind place found.recovered) kept

-- the device was only read; or one of the calls that write failed, and none was made behind it
abbrev pub StopsMount : {D : Type 0} → (D → Option (List (List ℕ))) → (D → ℕ) → (D → Changes) → (D → ℕ) → (D → ℕ) → LogPlace → List Block → StoreFault → D → D → Type 0
StopsMount gives count changes faults moment place kept fault old new =
    KeepsDevice gives count changes faults moment old new ⊎ ((fault ≡ Fault) × (failed : Failed) × (found : ToWrite) × ReadsAndWrites gives count changes faults moment place kept found (Err failed) old new)

-- ---- what stands then, where the disk is known

-- this is what the log says to a mount that writes, on this disk
pub record ReadsOn (place : LogPlace) (kept : List Block) (state : LogState) (old : Changes) (first : Disk) : Type 0 where
  pub known : old.disk ≡ Some first
  pub read : to_write_in (content_of (seen first)) place kept ≡ Ok state

-- they are the blocks of the grid that the entries shadow, each once
pub record AreShadows (list : List Entry) (shadows : List Shadow) : Type 0 where
  pub held : (b : Block) → held_lsn shadows b ≡ shadow_lsn list b
  pub once : IsDistinct same_block (map shadow_block shadows)

-- the shadowed blocks of the log as it was found
abbrev pub ShadowsFound : LogPlace → List Block → Changes → List Shadow → Type 0
ShadowsFound place kept old shadows = (first : Disk) (state : LogState) → ReadsOn place kept state old first → AreShadows state.log shadows

-- where the disk is known, the store has a window whose present content is what is seen of it
abbrev pub ShowsDisk : Changes → StoreFacts → Type 0
ShowsDisk now store = (disk : Disk) → now.disk ≡ Some disk → HasStart now store (content_of (seen disk))

-- on a disk that was settled, the store's window is that of the recovered content: no commit that isn't durable, no transaction open, and the present content is this one
abbrev pub ShowsRecovered : LogPlace → List Block → Changes → Changes → StoreFacts → Type 0
ShowsRecovered place kept old now store =
    (first : Disk) (state : LogState) → ReadsOn place kept state old first → IsSettled first → HasMounted now store state.log (mounted_content (content_of (seen first)) state.log)

-- On a disk that was settled, and of whose restart pages one is the newer, each image that a crash could leave since a moment up to this one recovers to the same content, or could be left before.
abbrev pub StaysRecovered : ℕ → LogPlace → List Block → Changes → Changes → Type 0
StaysRecovered moment place kept old now =
    (count : ℕ) (first : Disk) (state : LogState) → ReadsOn place kept state old first → IsSettled first → OneIsNewer (said_restart (raw_page place (seen first) 0)) (said_restart (raw_page place (seen first) 1))
    → LeavesAlike count moment place kept state.log (mounted_content (content_of (seen first)) state.log) state.next_lap old now
