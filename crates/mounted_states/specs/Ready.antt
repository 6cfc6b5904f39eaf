-- What a mounted volume has, so that operations may change it through its store.
use Rattle.std.specs.Prelude.{◌≡◌, ℕ, ◌+◌, ◌*◌, ◌/◌, ◌<◌, ◌≤◌, None, List, sum_by}
use Rattle.std.specs.List.{AllByRecursion}
use Rattle.sector_device.specs.Moments.{Changes}
use Rattle.boot_sector.specs.BootSectors.{most_clusters}
use Rattle.volume_model.specs.Volumes.{Volume}
use Rattle.volume_model.specs.Owners.{uses}
use Rattle.volume_state.specs.Trees.{tree_of}
use Rattle.stream_laws.specs.Sharing.{stream_at, runs_in}
use Rattle.safe_blocks.specs.map_change.Parts.{MapParts}
use Rattle.safe_blocks.specs.plan_owners.Agreeing.{log_key}
use Rattle.log_page.specs.declared.places.Extent.{Extent}
use Rattle.log_page.specs.declared.places.LogPlace.{LogPlace}
use Rattle.safe_blocks.specs.volume_mount.Mounts.{MountedVolume}
use Rattle.safe_blocks.specs.volume_mount.Welcome.{IsWelcome}
use Rattle.txn_state.specs.States.{StateOf, facts_of}
use Rattle.safe_blocks.specs.txn_core.Views.{present_on}
use Rattle.mounted_states.specs.Starts.{IsMountedWith}

-- each sector of each run of the log lies in a cluster that the volume's log has
abbrev pub RunsLieInLog : LogPlace → Volume → Type 0
RunsLieInLog place v = AllByRecursion (λ (e : Extent). (s : ℕ) → e.first ≤ s → s < e.first + e.sectors → 0 < uses (runs_in (stream_at v log_key)) (s / 8)) place.runs

-- the log's runs have the sectors of its pages, and no more
abbrev pub HasRunsAlone : LogPlace → Type 0
HasRunsAlone place = sum_by (λ (e : Extent). e.sectors) place.runs ≡ 8 * place.pages

-- The content is a state that a mount takes, without a change journal. The volume has no more clusters than can be named, and the runs of the store's log lie in the clusters of the volume's.
pub record MayBeChanged (disk : List (List ℕ)) (state : StateOf) (p : MapParts) : Type 0 where
  pub welcome : IsWelcome (present_on disk (facts_of state)) p.volume
  pub journal : (tree_of (present_on disk (facts_of state)) p.volume).journal ≡ None
  pub few : p.volume.clusters ≤ most_clusters
  pub runs : RunsLieInLog state.place p.volume

abbrev pub StoresMayBeChanged : Type 0
StoresMayBeChanged = (count : ℕ) (first disk : List (List ℕ)) (m : MountedVolume) (old now : Changes) (state : StateOf) (p : MapParts) (table : List ℕ) → IsMountedWith count first disk m old now state p table → HasRunsAlone state.place → MayBeChanged disk state p
