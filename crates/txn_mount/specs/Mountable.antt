-- A mount doesn't refuse what a store leaves, nor what a mount of that leaves which was stopped.
use Rattle.std.specs.Prelude.{◌≡◌, ◌⊎◌, ℕ, suc, ◌+◌, ◌^◌, ◌<◌, ◌≤◌, max, List, Ok}
use Rattle.host_base.specs.Answers.{ExplainsOrFails}
use Rattle.disk_model.specs.declared.block.Block.{Block}
use Rattle.disk_model.specs.Content.{Content, content_of}
use Rattle.disk_model.specs.Sectors.{sector_of}
use Rattle.sector_device.specs.Moments.{Changes, MayLeaveNow, LeftSince}
use Rattle.log_model.specs.declared.entry.Entry.{Entry}
use Rattle.txn_core.specs.log_page.declared.places.LogPlace.{LogPlace}
use Rattle.txn_core.specs.log_page.Places.{sequence_bits}
use Rattle.log_recovery.specs.log_reading.Rings.{IsRingPlace}
use Rattle.log_recovery.specs.LogStates.{LogState}
use Rattle.log_recovery.specs.Writing.{to_write_in}
use Rattle.store_model.specs.Geometry.{SectorBytes}
use Rattle.txn_core.specs.store_claims.Windows.{StoreWindow}
use Rattle.txn_core.specs.txn_laws.Windows.{HasWindow, RecoversWithin, lap_behind, next_lap_in, During, LapsDuring}
use Rattle.txn_core.specs.txn_model.Values.{StoreFacts, is_own}
use Rattle.txn_mount.specs.declared.fault.StoreFault.{StoreFault}
use Rattle.txn_mount.specs.declared.fault.StoreFault.TheVariants.{Fault, Memory}
use Rattle.txn_mount.specs.Contents.{UpdatesKnown}
use Rattle.txn_mount.specs.Faults.{store_cause}
use Rattle.txn_mount.specs.Images.{RecoversAlike}

-- this lap isn't near the end of the laps: 2^16 are left behind it
abbrev pub IsFar : LogPlace → ℕ → Type 0
IsFar place lap = lap + 2 ^ 16 < 2 ^ sequence_bits place.pages

-- A mount that writes doesn't refuse the log of these sectors, of which each update is one of a known block; and the lap that it begins is at most this one.
pub record IsMountable (place : LogPlace) (kept : List Block) (lap : ℕ) (at : SectorBytes) : Type 0 where
  pub state : LogState
  pub read : to_write_in (content_of at) place kept ≡ Ok state
  pub updates : UpdatesKnown (is_own place kept) state.log
  pub next : state.next_lap ≤ lap

pub record StoresMount : Type 0 where
  -- what recovers to a content of a store's window, whether it was left at a return or inside a call, isn't refused, but where its own laps come near their end
  pub within : (place : LogPlace) (kept : List Block) (w : StoreWindow) (at : SectorBytes) → IsRingPlace place → RecoversWithin place (is_own place kept) w at → IsFar place (next_lap_in place at) → IsMountable place kept (next_lap_in place at) at
  -- what may be left of a store at a return isn't, but where its next lap comes near that; and the lap that a mount of it begins is that one at most
  pub at_return : (count : ℕ) (changes : Changes) (f : StoreFacts) (w : StoreWindow) (image : List (List ℕ)) → HasWindow changes f w → MayLeaveNow count changes image → IsFar f.place (lap_behind f)
      → IsMountable f.place f.found (lap_behind f) (sector_of image)
  -- and whatever is left inside a call, which is known as each call of a store says it, counted so before it, or isn't refused either, with the laps of before and after
  pub during : (count moment : ℕ) (old now : Changes) (f g : StoreFacts) (w v : StoreWindow) (t : ℕ) (image : List (List ℕ)) → HasWindow old f w → During count moment old now f w v → LapsDuring count moment old now f g
      → t ≤ moment → LeftSince count now t image → IsFar f.place (max (lap_behind f) (lap_behind g)) → LeftSince count old t image ⊎ IsMountable f.place f.found (max (lap_behind f) (lap_behind g)) (sector_of image)

-- The same of what a mount leaves that was stopped, of a log whose updates are of known blocks, as those of a store's are: the lap that a mount of it begins is at most one more than
-- that which the stopped one began.
abbrev pub StoppedMountsMount : Type 0
StoppedMountsMount = (place : LogPlace) (kept : List Block) (list : List Entry) (content : Content) (lap : ℕ) (at : SectorBytes) → IsRingPlace place → RecoversAlike place kept list content lap at → UpdatesKnown (is_own place kept) list → IsFar place (suc lap)
    → IsMountable place kept (suc lap) at

-- So a mount of such a disk answers `Ok`, or its error is a failure of the device or want of memory.
abbrev pub NeverRefused : Type 0
NeverRefused = (place : LogPlace) (kept : List Block) (lap : ℕ) (at : SectorBytes) (fault : StoreFault) → IsMountable place kept lap at → ExplainsOrFails (store_cause fault) (to_write_in (content_of at) place kept)
    → (fault ≡ Fault) ⊎ (fault ≡ Memory)
