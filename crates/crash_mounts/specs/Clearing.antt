-- The live blocks of a state that are shadowed by the list by which an image recovers to it.
use Rattle.std.specs.Prelude.{◌≡◌, ◌*◌, ◌/◌, ◌<◌, ◌≤◌, ℕ, is_some, true, false, List, None}
use Rattle.disk_model.specs.declared.block.Block.{Block}
use Rattle.disk_model.specs.Content.{Content}
use Rattle.state_model.specs.declared.geometry.Geometry.{Geometry}
use Rattle.state_model.specs.Loads.{total_clusters}
use Rattle.volume_model.specs.Volumes.{Volume, file_in, log_file}
use Rattle.volume_model.specs.Owners.{uses}
use Rattle.stream_laws.specs.Owners.{initialised_in, IsLive}
use Rattle.stream_laws.specs.Sharing.{stream_at, runs_in}
use Rattle.mount_laws.specs.plan_owners.Agreeing.{log_key}
use Rattle.mount_laws.specs.plan_owners.Kinds.{cluster_of}
use Rattle.mount_laws.specs.plan_owners.States.{Stands}
use Rattle.log_model.specs.declared.entry.Entry.{Entry}
use Rattle.log_model.specs.Logs.{is_shadowed}
use Rattle.log_page.specs.declared.places.LogPlace.{LogPlace}
use Rattle.log_reading.specs.Rings.{IsRingPlace}
use Rattle.txn_mount.specs.log_recovery.Recovering.{shadow_lsn}
use Rattle.mount_laws.specs.image_open.LogPlaces.{place_of_log, LieAlike}
use Rattle.member_states.specs.log_area.Areas.{page_first}
use Rattle.store_model.specs.Geometry.{SectorBytes}
use Rattle.store_model.specs.Logs.{has_update}
use Rattle.store_model.specs.Volumes.{is_known}
use Rattle.store_claims.specs.Windows.{StoreWindow}
use Rattle.member_states.specs.txn_model.Values.{is_own}
use Rattle.member_states.specs.txn_laws.Windows.{RecoversWithin}
use Rattle.mount_laws.specs.volume_shadows.Live.{least_live}
use Rattle.member_states.specs.Members.{VolumeBase, MemberIs}

-- none of the log's own blocks is
abbrev pub IsLogClear : List Entry → Volume → Type 0
IsLogClear list v = (b : Block) (live : IsLive v b) → live.owned.stream ≡ log_key → is_shadowed list b ≡ false

-- Then none is: each of the others is claimed.
abbrev pub NoneShadowed : Type 0
NoneShadowed = (place : LogPlace) (base : VolumeBase) (w : StoreWindow) (image : SectorBytes) (x : RecoversWithin place base.own w image) (v : Volume) → MemberIs base w x.back v → IsLogClear x.list v → least_live (shadow_lsn x.list) v ≡ None

-- each live block of the log lies in the cluster of one of its pages, so that none is past the last whole page
abbrev pub PagesHoldLog : LogPlace → Volume → Type 0
PagesHoldLog place v = (b : Block) (live : IsLive v b) → live.owned.stream ≡ log_key → (k : ℕ) × (k < place.pages) × (page_first place k / 8 ≡ cluster_of b)

-- Then no list shadows one that updates known blocks alone, as each list of a store does.
abbrev pub LogsStayClear : Type 0
LogsStayClear = (place : LogPlace) (found : List Block) (list : List Entry) (v : Volume) → v.per ≡ 8 → IsRingPlace place → PagesHoldLog place v → ((b : Block) → has_update list b ≡ true → is_known (is_own place found) b ≡ true) → IsLogClear list v

-- They do where the log is a volume's stream of it, which has no other clusters here: no more of it is initialised than its whole pages; or, in a state, it has no cluster past its last page.
pub record PagesHold : Type 0 where
  pub sizes : (place own : LogPlace) (total sectors : ℕ) (first v : Volume) → v.per ≡ 8 → IsRingPlace place → LieAlike place own → own ≡ place_of_log 8 total sectors (stream_at first log_key) → runs_in (stream_at v log_key) ≡ runs_in (stream_at first log_key)
      → initialised_in (stream_at v log_key) ≤ 4096 * place.pages → PagesHoldLog place v
  pub clusters : (place own : LogPlace) (total sectors : ℕ) (first v : Volume) (c : Content) (g : Geometry) (clusters : ℕ) → g.per_cluster ≡ 8 → Stands c g clusters v → IsRingPlace place → LieAlike place own → own ≡ place_of_log 8 total sectors (stream_at first log_key)
      → runs_in (stream_at v log_key) ≡ runs_in (stream_at first log_key) → total_clusters (runs_in (stream_at v log_key)) ≤ place.pages → PagesHoldLog place v

-- And record 2 is a file's where the volume's stream of the log has a cluster.
abbrev pub LogsAreFiles : Type 0
LogsAreFiles = (v : Volume) (x : ℕ) → 0 < uses (runs_in (stream_at v log_key)) x → is_some (file_in v log_file) ≡ true
