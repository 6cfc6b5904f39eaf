-- The volume on the sectors of a device, opened by its boot sector and its log; or the first refusal that applies.
use Rattle.std.specs.Prelude.{ℕ, nat_le, nat_lt, List, length, Option, Some, None, Result, Ok}
use Rattle.host_base.specs.Answers.{◌>>=◌, needs}
use Rattle.disk_model.specs.declared.block.Block.{Block}
use Rattle.disk_model.specs.declared.block.BlockKind.TheVariants.{Plain}
use Rattle.disk_model.specs.Sectors.{sector_of}
use Rattle.disk_model.specs.Content.{Content, content_of}
use Rattle.state_model.specs.record_model.Records.{Record}
use Rattle.state_model.specs.declared.geometry.Geometry.{Geometry}
use Rattle.state_model.specs.declared.stream.Stream.{Stream}
use Rattle.state_model.specs.Loads.{slot_of, judged, boot_block, data_stream}
use Rattle.boot_sector.specs.declared.boot.Boot.{Boot}
use Rattle.boot_sector.specs.BootSectors.{boot_of, clusters}
use Rattle.log_model.specs.Logs.{recovered}
use Rattle.log_recovery.specs.log_page.declared.places.LogPlace.{LogPlace}
use Rattle.log_recovery.specs.LogStates.{LogState, recovery_in}
use Rattle.image_open.specs.declared.refusal.Refusal.{Refusal}
use Rattle.image_open.specs.declared.refusal.Refusal.TheVariants.{Short}
use Rattle.image_open.specs.Errors.{boot_refusal, map_refusal, log_refusal, refused_as}
use Rattle.image_open.specs.LogPlaces.{place_of_log}

-- ---- the boot sector

-- the first sector
abbrev pub boot_place : Block
boot_place = record { first = 0; kind = Plain }

unfoldable pub boot_in : Content → Result Boot Refusal
boot_in c = refused_as boot_refusal (boot_of (c boot_place).bytes)

-- the volume lies on a device of so many sectors
abbrev pub sized_on : ℕ → Boot → Result Boot Refusal
sized_on sectors b = needs (nat_le b.sectors sectors) (Short b.sectors sectors) >>= λ _. Ok b

unfoldable pub boot_on : Content → ℕ → Result Boot Refusal
boot_on c sectors = boot_in c >>= sized_on sectors

unfoldable pub geometry_of : Boot → Geometry
geometry_of b = record { per_cluster = b.per_cluster; mft = b.mft }

-- ---- the log

-- record 2 where the boot sector says that the file table begins
unfoldable pub log_record : Content → Geometry → Result (Option Record) Refusal
log_record c g = refused_as map_refusal (judged 2 (slot_of (c (boot_block g 2))))

-- the unnamed data of a file, if there are both
abbrev pub data_of : Option Record → Option Stream
data_of (Some r) = data_stream r
data_of None = None

-- where the log lies, by record 2
abbrev pub log_place : Geometry → ℕ → ℕ → Option Record → LogPlace
log_place g clusters device file = place_of_log g.per_cluster clusters device (data_of file)

-- the content that recovery by the log at this place makes, or what refuses the log
unfoldable pub recovered_at : Content → LogPlace → Result Content Refusal
recovered_at c place = refused_as log_refusal (recovery_in c place) >>= λ state. Ok (recovered c state.log)

-- the same of a volume of so many clusters, on a device of so many sectors
unfoldable pub recovered_in : Content → Geometry → ℕ → ℕ → Result Content Refusal
recovered_in c g clusters device = log_record c g >>= λ file. recovered_at c (log_place g clusters device file)

-- what the log of a volume of so many clusters says, on a device of so many sectors; or what refuses it
unfoldable pub log_state : Content → Geometry → ℕ → ℕ → Result LogState Refusal
log_state c g clusters device = log_record c g >>= λ file. refused_as log_refusal (recovery_in c (log_place g clusters device file))

-- ---- both

-- a volume that was opened: where its file table lies, its clusters, and its recovered content
pub record Opened : Type 0 where
  pub geometry : Geometry
  pub total : ℕ
  pub content : Content

-- a volume with this boot sector
unfoldable pub opened_by : Content → ℕ → Boot → Result Opened Refusal
opened_by c sectors b =
    recovered_in c (geometry_of b) (clusters b) sectors >>= λ content. Ok (record { geometry = geometry_of b; total = clusters b; content = content })

-- the volume on a device of so many sectors, or what refuses its boot sector or its log
unfoldable pub opened_in : Content → ℕ → Result Opened Refusal
opened_in c sectors = boot_on c sectors >>= opened_by c sectors

-- what is meant of the recovered content, the geometry and the clusters of the volume on a device of so many sectors; or what refuses this volume
abbrev pub in_volume : {X : Type 0} → (Content → Geometry → ℕ → Result X Refusal) → Content → ℕ → Result X Refusal
in_volume meant c sectors = opened_in c sectors >>= λ o. meant o.content o.geometry o.total

-- what is meant of the content of a device and the number of its sectors; one that has none is too short
abbrev pub on_disk : {X : Type 0} → (Content → ℕ → Result X Refusal) → List (List ℕ) → Result X Refusal
on_disk meant disk = needs (nat_lt 0 (length disk)) (Short 1 0) >>= λ _. meant (content_of (sector_of disk)) (length disk)
