-- The laws of a mount that writes.
use Rattle.std.specs.Prelude.{◌≡◌, ℕ, ◌*◌, ◌^◌, ◌<◌, ◌≤◌, ◌&&◌, not, Bool, true, false, List, Option, Some, Ok, Result, All, IfSome}
use Rattle.host_base.specs.declared.outside.Failed.{Failed}
use Rattle.disk_model.specs.declared.block.Block.{Block}
use Rattle.disk_model.specs.Content.{Content, content_of}
use Rattle.disk_model.specs.Sectors.{sector_of}
use Rattle.sector_device.specs.Disks.{Disk, IsSettled, SeesDisk, seen}
use Rattle.sector_device.specs.Moments.{Changes}
use Rattle.txn_core.specs.log_area.Areas.{new_area}
use Rattle.txn_core.specs.log_page.declared.places.LogPlace.{LogPlace}
use Rattle.log_recovery.specs.log_reading.Rings.{IsRingPlace}
use Rattle.log_model.specs.declared.entry.Entry.{Entry}
use Rattle.log_model.specs.Logs.{is_shadowed}
use Rattle.log_recovery.specs.log_reading.declared.front.RestartFront.{RestartFront}
use Rattle.log_recovery.specs.log_reading.Fronts.{front_in}
use Rattle.log_recovery.specs.log_reading.LogPages.{page_in}
use Rattle.log_recovery.specs.LogStates.{LogState, live_entries_in}
use Rattle.log_recovery.specs.Recovering.{AreRecovered, IsSized}
use Rattle.log_recovery.specs.declared.found.RecoveredBlocks.{RecoveredBlocks}
use Rattle.store_model.specs.Geometry.{SectorBytes}
use Rattle.store_model.specs.Volumes.{is_known}
use Rattle.txn_core.specs.txn_model.Values.{is_own}
use Rattle.txn_mount.specs.declared.puts.PutOut.{PutOut}
use Rattle.txn_mount.specs.Puts.{items_of, AreKeys}
use Rattle.log_recovery.specs.Writing.{is_put_out, to_write_in, IsToWrite, RecoversToWrite}
use Rattle.log_recovery.specs.declared.writing.ToWrite.{ToWrite}
use Rattle.txn_core.specs.Openings.{StartsThen}
use Rattle.log_recovery.specs.declared.found.RecoveredBlock.{RecoveredBlock}
use Rattle.txn_core.specs.ring_laws.PageBytes.{raw_page}
use Rattle.txn_core.specs.ring_laws.RestartPages.{said_restart}
use Rattle.txn_core.specs.txn_laws.Laws.{first_lsn, opened_area, StartsOn}
use Rattle.txn_core.specs.txn_laws.Mounting.{HasMounted}
use Rattle.txn_core.specs.txn_model.Calls.{first_facts}
use Rattle.txn_mount.specs.Contents.{mounted_content}
use Rattle.txn_mount.specs.Images.{AreItems, left_of, LeavesAlike, OneIsNewer, RecoversAlike, IsMountedAs}
use Rattle.txn_mount.specs.Calls.{MountsBy}

-- What a mount has read of a device whose disk is known, and the blocks that it puts out.
pub record MayMount (place : LogPlace) (kept : List Block) (state : LogState) (items : List RecoveredBlock) (first : Disk) : Type 0 where
  pub ring : IsRingPlace place
  pub read : to_write_in (content_of (seen first)) place kept ≡ Ok state
  pub own : AreItems (content_of (seen first)) state.log items
  pub all : (b : Block) → is_put_out (content_of (seen first)) state.log b ≡ true → left_of items b ≡ true
  pub lsn : first_lsn place state.next_lap state.restart state.opens < 2 ^ 64

-- all that it writes
abbrev pub MountsAs : {D : Type 0} → (D → Option (List (List ℕ))) → (D → Changes) → (D → ℕ) → LogPlace → LogState → List RecoveredBlock → Result (Unit {0}) Failed → D → D → Type 0
MountsAs gives changes moment place state items result old new =
    MountsBy gives changes moment items (new_area place state.next_lap state.restart state.opens) (first_lsn place state.next_lap state.restart state.opens) result old new

pub record MountsRecover {D : Type 0} (gives : D → Option (List (List ℕ))) (changes : D → Changes) (moment : D → ℕ) : Type 0 where
  -- a store begins behind it, whatever was unsynced before, and by whatever blocks the log is found
  pub starts : (place : LogPlace) (kept : List Block) (state : LogState) (items : List RecoveredBlock) (first : Disk) (found : List Block) (old new : D) → (changes old).disk ≡ Some first → MayMount place kept state items first
      → MountsAs gives changes moment place state items (Ok tt) old new → StartsOn changes place (opened_area place state.next_lap state.restart state.opens) found new
  -- on a settled disk, of whose restart pages one is the newer: whatever is left since before recovers to the mounted content, wherever the mount was stopped
  pub images : (count : ℕ) (place : LogPlace) (kept : List Block) (state : LogState) (items : List RecoveredBlock) (first : Disk) (result : Result (Unit {0}) Failed) (old new : D) → (changes old).disk ≡ Some first → MayMount place kept state items first → IsSettled first
      → OneIsNewer (said_restart (raw_page place (seen first) 0)) (said_restart (raw_page place (seen first) 1)) → MountsAs gives changes moment place state items result old new
      → LeavesAlike count (moment old) place kept state.log (mounted_content (content_of (seen first)) state.log) state.next_lap (changes old) (changes new)
  -- and the store that then begins shows that content
  pub mounted : (place : LogPlace) (kept : List Block) (state : LogState) (items : List RecoveredBlock) (first : Disk) (old new : D) → (changes old).disk ≡ Some first → MayMount place kept state items first → IsSettled first
      → MountsAs gives changes moment place state items (Ok tt) old new
      → HasMounted (changes new) (first_facts place (opened_area place state.next_lap state.restart state.opens) kept) state.log (mounted_content (content_of (seen first)) state.log)

-- What a mount may put out of the bodies that recovery found, on a device that has the volume's sectors.
abbrev pub ChosenMayMount : Type 0
ChosenMayMount = (place : LogPlace) (kept : List Block) (first : Disk) (state : LogState) (count : ℕ) (found : RecoveredBlocks) (keys : List PutOut) → IsRingPlace place → to_write_in (content_of (seen first)) place kept ≡ Ok state → AreRecovered (content_of (seen first)) state.log found
    → All IsSized found.bodies.items → AreKeys count found.bodies.items keys → 8 * place.clusters ≤ count → first_lsn place state.next_lap state.restart state.opens < 2 ^ 64 → MayMount place kept state (items_of found.bodies.items keys) first

-- An image that such a mount left recovers, on these blocks, to the content.
pub record Recovers (place : LogPlace) (such : Block → Bool) (content : Content) (at : SectorBytes) : Type 0 where
  pub front : RestartFront
  pub fronted : front_in (page_in (content_of at) place 0) (page_in (content_of at) place 1) ≡ Ok front
  pub entries : List Entry
  pub reads : live_entries_in (content_of at) place front.chosen ≡ Ok entries
  pub claimed : (b : Block) → such b ≡ true → is_shadowed entries b ≡ false
  pub mounts : (b : Block) → such b ≡ true → IsMountedAs entries at content b

-- A mount that was stopped, and one of what it left, and so on: each image recovers to the first content, on the known blocks that the first list didn't shadow.
pub record StoppedMounts : Type 0 where
  pub first : (place : LogPlace) (kept : List Block) (list : List Entry) (content : Content) (lap : ℕ) (at : SectorBytes) → RecoversAlike place kept list content lap at
      → Recovers place (λ b. is_known (is_own place kept) b && not (is_shadowed list b)) content at
  pub again : (place : LogPlace) (kept : List Block) (such : Block → Bool) (content : Content) (state : LogState) (at later : SectorBytes) → ((b : Block) → such b ≡ true → is_known (is_own place kept) b ≡ true) → Recovers place such content at
      → to_write_in (content_of at) place kept ≡ Ok state → RecoversAlike place kept state.log (mounted_content (content_of at) state.log) state.next_lap later → Recovers place such content later

-- What was read of a device is what recovery makes of the disk behind it, where this is known.
pub record FindsOn (place : LogPlace) (kept : List Block) (found : ToWrite) (disk : Disk) : Type 0 where
  pub state : LogState
  pub read : to_write_in (content_of (seen disk)) place kept ≡ Ok state
  pub is : IsToWrite (content_of (seen disk)) state found

abbrev pub ReadsDisk : Type 0
ReadsDisk = (place : LogPlace) (kept : List Block) (found : ToWrite) (gives : Option (List (List ℕ))) (disk : Option Disk) → SeesDisk gives disk
    → IfSome gives (λ g. RecoversToWrite (content_of (sector_of g)) (to_write_in (content_of (sector_of g)) place kept) (Ok found)) → IfSome disk (FindsOn place kept found)

-- A store may begin behind a mount's calls on a device of which, where its disk is known, this was read before.
abbrev pub StartsBehind : {D : Type 0} → (D → Option (List (List ℕ))) → (D → Changes) → (D → ℕ) → Type 0
StartsBehind {D} gives changes moment = (place : LogPlace) (kept : List Block) (state : LogState) (items : List RecoveredBlock) (old new : D) → IfSome (changes old).disk (MayMount place kept state items)
    → MountsAs gives changes moment place state items (Ok tt) old new → StartsThen changes place (opened_area place state.next_lap state.restart state.opens) new
