-- The states of a volume from which operations on files are done.
use Rattle.std.specs.Prelude.{◌≡◌, ℕ, ◌+◌, ◌/◌, ◌<◌, ◌≤◌, true, List}
use Rattle.std.specs.List.{AllByRecursion}
use Rattle.disk_model.specs.declared.block.Change.{Change}
use Rattle.disk_model.specs.Content.{Content}
use Rattle.log_page.specs.declared.places.Extent.{Extent}
use Rattle.log_page.specs.declared.places.LogPlace.{LogPlace}
use Rattle.volume_model.specs.Volumes.{Volume}
use Rattle.volume_model.specs.Owners.{uses}
use Rattle.plans_lead.specs.volume_mount.Welcome.{IsWelcome}
use Rattle.stream_laws.specs.Sharing.{stream_at, runs_in}
use Rattle.plans_lead.specs.map_change.Parts.{MapParts}
use Rattle.plans_lead.specs.plan_owners.Agreeing.{log_key}
use Rattle.plans_lead.specs.plan_spares.Plans.{HasOwnLists}
use Rattle.plans_lead.specs.file_puts.declared.streams.VolumeStreams.{VolumeStreams}
use Rattle.plans_lead.specs.txn_model.Values.{StoreFacts}
use Rattle.put_checks.specs.state_store.Volumes.{geometry_of}
use Rattle.change_plan.specs.States.{IsPlannable, HasFewClusters}
use Rattle.plans_lead.specs.Leading.{HasLogOf, LeadsAsAsked}
use Rattle.put_checks.specs.Checks.{may_put}

-- each sector of each run of the log lies in a cluster that the volume's log has
abbrev pub RunsLieInLog : LogPlace → Volume → Type 0
RunsLieInLog place v = AllByRecursion (λ (e : Extent). (s : ℕ) → e.first ≤ s → s < e.first + e.sectors → 0 < uses (runs_in (stream_at v log_key)) (s / 8)) place.runs

-- The content is a state from which operations are planned, by this map, this table of upper-case units and these streams, of a volume whose clusters can be named. The store's log is the
-- volume's, and lies in its clusters; no attribute list has a part in another record; and it is one that a mount takes.
pub record IsReady (f : StoreFacts) (m : MapParts) (table : List ℕ) (s : VolumeStreams) (c : Content) : Type 0 where
  pub plannable : IsPlannable c (geometry_of m) m.volume.clusters m.volume table s
  pub few : HasFewClusters m.volume.clusters
  pub lists : HasOwnLists c m.volume
  pub log : HasLogOf f m
  pub runs : RunsLieInLog f.place m.volume
  pub welcome : IsWelcome c m.volume

-- A volume takes the changes: they lead on as it asks, and the store may be given them.
pub record IsTaken (f : StoreFacts) (m : MapParts) (table : List ℕ) (s : VolumeStreams) (changes : List Change) (c : Content) : Type 0 where
  pub leads : LeadsAsAsked m table c s changes
  pub passes : may_put f.place f.found changes ≡ true
