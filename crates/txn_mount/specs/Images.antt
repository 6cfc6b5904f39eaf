-- What a crash leaves of a device that is being mounted.
use Rattle.std.specs.Prelude.{◌≡◌, ◌⊎◌, ⊤, ℕ, ◌*◌, ◌≤◌, length, Bool, true, false, List, [], ◌∷◌, Option, Some, None, Ok}
use Rattle.disk_model.specs.declared.block.Block.{Block}
use Rattle.disk_model.specs.Content.{Content, content_of}
use Rattle.std.specs.List.{list_any}
use Rattle.disk_model.specs.Sectors.{sectors, sector_of, same_block}
use Rattle.fixup_record.specs.Spellings.{has_spelling}
use Rattle.sector_device.specs.Disks.{Disk, seen, is_within}
use Rattle.sector_device.specs.Moments.{Changes, LeftSince}
use Rattle.txn_core.specs.log_laws.NextLaps.{IsSaid}
use Rattle.log_model.specs.declared.entry.Entry.{Entry}
use Rattle.log_model.specs.Logs.{is_shadowed, first_partial, recovered}
use Rattle.log_recovery.specs.declared.found.RecoveredBlock.{RecoveredBlock}
use Rattle.txn_core.specs.log_page.declared.places.LogPlace.{LogPlace}
use Rattle.txn_core.specs.log_page.declared.restart.Restart.{Restart}
use Rattle.txn_core.specs.log_page.Places.{lap_of}
use Rattle.txn_core.specs.log_page.Restarts.{is_newer}
use Rattle.log_recovery.specs.log_reading.declared.front.RestartFront.{RestartFront}
use Rattle.log_recovery.specs.log_reading.Fronts.{front_in}
use Rattle.log_recovery.specs.log_reading.LogPages.{page_in}
use Rattle.log_recovery.specs.LogStates.{live_entries_in}
use Rattle.log_recovery.specs.Writing.{is_put_out}
use Rattle.txn_core.specs.ring_laws.PageBytes.{raw_page, AreAlike}
use Rattle.store_model.specs.Logs.{has_update}
use Rattle.store_model.specs.Geometry.{SectorBytes}
use Rattle.store_model.specs.Volumes.{is_known}
use Rattle.txn_core.specs.txn_laws.Mounting.{IsMounting}
use Rattle.txn_core.specs.txn_model.Values.{is_own}
use Rattle.txn_mount.specs.Contents.{mounted_content, UpdatesKnown}

-- a mount of these sectors by the list makes of the block what it is in this content: its bytes are equal, and it is torn at most where it is torn there
pub record IsMountedAs (list : List Entry) (at : SectorBytes) (content : Content) (b : Block) : Type 0 where
  pub bytes : (mounted_content (content_of at) list b).bytes ≡ (content b).bytes
  pub torn : (mounted_content (content_of at) list b).torn ≡ true → (content b).torn ≡ true

-- A mount of the image, by a list of entries that is this one or none, leaves the known blocks that this list doesn't shadow as they are in the content, torn
-- at most where they are torn there. Its restart pages and entries aren't refused; and where the list updates known blocks alone, no block of it is
-- recovered in part or may not be written out. No LSN that the log says is of a lap above this one.
pub record RecoversAlike (place : LogPlace) (kept : List Block) (list : List Entry) (content : Content) (lap : ℕ) (at : SectorBytes) : Type 0 where
  pub front : RestartFront
  pub fronted : front_in (page_in (content_of at) place 0) (page_in (content_of at) place 1) ≡ Ok front
  pub entries : List Entry
  pub reads : live_entries_in (content_of at) place front.chosen ≡ Ok entries
  pub same : (entries ≡ list) ⊎ (entries ≡ [])
  pub recovers : (b : Block) → is_known (is_own place kept) b ≡ true → is_shadowed list b ≡ false → IsMountedAs entries at content b
  pub whole : UpdatesKnown (is_own place kept) list → first_partial (content_of at) entries ≡ None
  pub may_write : UpdatesKnown (is_own place kept) list → (b : Block) → is_put_out (content_of at) entries b ≡ true → (is_known (is_own place kept) b ≡ true) × (has_spelling b.kind (content b).bytes ≡ true)
  pub laps : (lsn : ℕ) → IsSaid place.pages (raw_page place at) front.chosen lsn → lap_of place.pages lsn ≤ lap

-- The mount of a device, whose disk was this one at first, goes on: of the known blocks that the list updates, and that aren't put out, the sectors stay.
pub record Spares (own : ℕ → Bool) (list : List Entry) (first now : Disk) : Type 0 where
  pub spared : (b : Block) → is_known own b ≡ true → has_update list b ≡ true → is_shadowed list b ≡ false → is_put_out (content_of (seen first)) list b ≡ false
      → (s : ℕ) → is_within b.first (sectors b.kind) s ≡ true → (now.written s ≡ []) × (now.durable s ≡ seen first s)

-- these blocks are still to be put out; the log's pages from this one on are those of at first
pub record MountsOn (place : LogPlace) (kept : List Block) (list : List Entry) (first : Disk) (from : ℕ) (left : Block → Bool) (now : Disk) : Type 0 where
  pub mounting : IsMounting (is_own place kept) list (mounted_content (content_of (seen first)) list) left now
  pub pages : AreAlike place from place.pages first now
  pub spares : Spares (is_own place kept) list first now

-- whatever is left since a moment was left before the call, or recovers so
abbrev pub LeavesAlike : (count moment : ℕ) → LogPlace → List Block → List Entry → Content → ℕ → (old now : Changes) → Type 0
LeavesAlike count moment place kept list content lap old now =
    (t : ℕ) (image : List (List ℕ)) → t ≤ moment → LeftSince count now t image → LeftSince count old t image ⊎ RecoversAlike place kept list content lap (sector_of image)

-- of two restart pages that are whole one is the newer one
abbrev pub OneIsNewer : Option Restart → Option Restart → Type 0
OneIsNewer (Some a) (Some b) = (is_newer a b ≡ true) ⊎ (is_newer b a ≡ true)
OneIsNewer (Some a) None = ⊤
OneIsNewer None other = ⊤

-- a block that is put out, with its body
pub record IsItem (c : Content) (list : List Entry) (x : RecoveredBlock) : Type 0 where
  pub out : is_put_out c list x.block ≡ true
  pub bytes : x.body.bytes ≡ (recovered c list x.block).bytes
  pub sized : length x.body.bytes ≡ 512 * sectors x.block.kind

abbrev pub AreItems : Content → List Entry → List RecoveredBlock → Type 0
AreItems c list [] = ⊤
AreItems c list (x ∷ xs) = IsItem c list x × AreItems c list xs

-- these blocks
abbrev pub left_of : List RecoveredBlock → Block → Bool
left_of rs b = list_any (λ (r : RecoveredBlock). same_block b r.block) rs
