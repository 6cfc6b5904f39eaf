-- What a mount makes of a content by the entries of its log, and what it reads of the log before.
use Rattle.std.specs.Prelude.{◌≡◌, ℕ, ◌&&◌, ◌||◌, not, Bool, true, List, None, Ok, All}
use Rattle.disk_model.specs.declared.block.Block.{Block}
use Rattle.disk_model.specs.Content.{Content}
use Rattle.log_model.specs.declared.entry.Entry.{Entry}
use Rattle.log_model.specs.Logs.{IsLevel, is_in_grid, is_written_out, recovered, first_partial}
use Rattle.txn_core.specs.log_page.declared.places.LogPlace.{LogPlace}
use Rattle.log_recovery.specs.log_reading.declared.front.RestartFront.{RestartFront}
use Rattle.log_recovery.specs.log_reading.Fronts.{front_in}
use Rattle.log_recovery.specs.log_reading.LogPages.{page_in}
use Rattle.log_recovery.specs.LogStates.{LogState, live_entries_in, lap_in}
use Rattle.log_recovery.specs.Own.{is_own}
use Rattle.log_recovery.specs.Writing.{is_put_out, is_barred, first_update, to_write_in}
use Rattle.store_model.specs.Logs.{has_update}
use Rattle.store_model.specs.Volumes.{is_known}

-- a torn block that has the recovered bytes already, which no bytes of a disk show untorn: it stays torn
abbrev pub stays_torn : Content → List Entry → Block → Bool
stays_torn c list b = is_written_out c list b && not (is_put_out c list b)

-- the content after the mount: the recovered one, in which such blocks are torn
abbrev pub mounted_content : Content → List Entry → Content
mounted_content c list b = record { bytes = (recovered c list b).bytes; torn = (recovered c list b).torn || stays_torn c list b }

-- each update in the list is one of a block that a store may change, as in each log of this host
abbrev pub UpdatesKnown : (ℕ → Bool) → List Entry → Type 0
UpdatesKnown own list = (b : Block) → has_update list b ≡ true → is_known own b ≡ true

-- What is read of a log that isn't refused.
pub record ReadsLog (c : Content) (place : LogPlace) (kept : List Block) (state : LogState) : Type 0 where
  pub front : RestartFront
  pub fronted : front_in (page_in c place 0) (page_in c place 1) ≡ Ok front
  pub entries : live_entries_in c place front.chosen ≡ Ok state.log
  pub whole : first_partial c state.log ≡ None
  pub lap : lap_in c place front.chosen ≡ Ok state.next_lap
  pub restart : state.restart ≡ front.restart
  pub opens : state.opens ≡ front.opens
  pub may_write : first_update (is_barred (is_own place kept) c state.log) state.log ≡ None

-- the entries that are read undo as many bytes as they redo, and update blocks of the grid
pub record ReadsWell (list : List Entry) : Type 0 where
  pub level : All IsLevel list
  pub grid : (b : Block) → has_update list b ≡ true → is_in_grid b ≡ true

pub record ReadsAreLevel : Type 0 where
  pub log : (c : Content) (place : LogPlace) (kept : List Block) (state : LogState) → to_write_in c place kept ≡ Ok state → ReadsLog c place kept state
  pub well : (c : Content) (place : LogPlace) (kept : List Block) (state : LogState) → to_write_in c place kept ≡ Ok state → ReadsWell state.log
