-- A volume that is opened for a mount that writes; or the first refusal that applies.
use Rattle.std.specs.Prelude.{ℕ, ◌≡◌, List, [], ◌∷◌, Result, Ok, Err}
use Rattle.host_base.specs.Answers.{◌>>=◌, ExplainsOrFails}
use Rattle.disk_model.specs.declared.block.Block.{Block}
use Rattle.disk_model.specs.Content.{Content}
use Rattle.state_model.specs.declared.geometry.Geometry.{Geometry}
use Rattle.state_model.specs.Loads.{boot_block}
use Rattle.boot_sector.specs.declared.boot.Boot.{Boot}
use Rattle.boot_sector.specs.BootSectors.{clusters}
use Rattle.log_recovery.specs.log_page.declared.places.LogPlace.{LogPlace}
use Rattle.log_recovery.specs.declared.writing.ToWrite.{ToWrite}
use Rattle.log_recovery.specs.LogStates.{LogState}
use Rattle.log_recovery.specs.Writing.{to_write_in, IsToWrite}
use Rattle.image_open.specs.declared.refusal.Refusal.{Refusal}
use Rattle.image_open.specs.declared.refusal.MountFault.{MountFault}
use Rattle.image_open.specs.declared.writing.OpeningToWrite.{OpeningToWrite}
use Rattle.image_open.specs.Errors.{scan_cause, log_refusal, refused_as}
use Rattle.image_open.specs.LogPlaces.{LieAlike}
use Rattle.image_open.specs.Volumes.{boot_place, boot_on, geometry_of, log_record, log_place}
use Rattle.image_open.specs.Clusters.{clusters_in}

-- ---- what is meant

-- the blocks by which the log is found: the boot sector, and record 2 where it says that the file table begins
abbrev pub found_by : Geometry → List Block
found_by g = boot_place ∷ boot_block g 2 ∷ []

-- what the log at this place says to a mount that writes, or what refuses it
abbrev pub log_to_write : Content → LogPlace → List Block → Result LogState Refusal
log_to_write c place kept = refused_as log_refusal (to_write_in c place kept)

-- a volume that was opened: where its file table lies, its clusters, where its log lies, and what this says
pub record OpenedToWrite : Type 0 where
  pub geometry : Geometry
  pub total : ℕ
  pub place : LogPlace
  pub state : LogState

-- a volume of so many clusters whose log lies at this place
unfoldable pub opened_at : Content → Geometry → ℕ → LogPlace → Result OpenedToWrite Refusal
opened_at c g total place = log_to_write c place (found_by g) >>= λ state. Ok (record { geometry = g; total = total; place = place; state = state })

-- the same where record 2 says that it lies, on a device of so many sectors
unfoldable pub opened_of : Content → Geometry → ℕ → ℕ → Result OpenedToWrite Refusal
opened_of c g total sectors = log_record c g >>= λ file. opened_at c g total (log_place g total sectors file)

-- a volume with this boot sector
unfoldable pub opened_with : Content → ℕ → Boot → Result OpenedToWrite Refusal
opened_with c sectors b = opened_of c (geometry_of b) (clusters b) sectors

-- a volume whose clusters have been asked for their sectors
unfoldable pub opened_behind : Content → ℕ → Result OpenedToWrite Refusal
opened_behind c sectors = boot_on c sectors >>= opened_with c sectors

-- the volume on a device of so many sectors, or what refuses its clusters, its boot sector, its record 2 or its log
unfoldable pub opened_to_write_in : Content → ℕ → Result OpenedToWrite Refusal
opened_to_write_in c sectors = clusters_in c >>= λ _. opened_behind c sectors

-- ---- what is answered

-- what was found is what the log says
abbrev pub IsFoundToWrite : Content → Result LogState Refusal → ToWrite → Type 0
IsFoundToWrite c (Ok state) found = IsToWrite c state found
IsFoundToWrite c (Err refusal) found = ⊥

-- what a mount needs of a log, or the refusal that is meant
abbrev pub FindsToWrite : Content → Result LogState Refusal → Result ToWrite MountFault → Type 0
FindsToWrite c meant (Ok found) = IsFoundToWrite c meant found
FindsToWrite c meant (Err e) = ExplainsOrFails (scan_cause e) meant

-- What was opened is what is meant, and its log has as many pages and bytes, in the same sectors.
pub record IsOpenedToWrite (c : Content) (meant : OpenedToWrite) (o : OpeningToWrite) : Type 0 where
  pub geometry : o.geometry ≡ meant.geometry
  pub total : o.total ≡ meant.total
  pub place : LieAlike o.place meant.place
  pub found : IsToWrite c meant.state o.found

abbrev pub IsOpenedAs : Content → Result OpenedToWrite Refusal → OpeningToWrite → Type 0
IsOpenedAs c (Ok meant) o = IsOpenedToWrite c meant o
IsOpenedAs c (Err refusal) o = ⊥

-- an opened volume, or the refusal that is meant
abbrev pub OpensToWrite : Content → Result OpenedToWrite Refusal → Result OpeningToWrite MountFault → Type 0
OpensToWrite c meant (Ok o) = IsOpenedAs c meant o
OpensToWrite c meant (Err e) = ExplainsOrFails (scan_cause e) meant
