-- The changes of a plan that writes or cuts a file are some that a volume takes.
use Rattle.std.specs.Prelude.{◌≡◌, ℕ, ◌*◌, ◌≤◌, false, All, List, None}
use Rattle.std.specs.List.{AllByRecursion}
use Rattle.disk_model.specs.declared.block.Change.{Change}
use Rattle.disk_model.specs.Content.{Content}
use Rattle.disk_model.specs.Sectors.{overlap}
use Rattle.record_model.specs.Records.{Record}
use Rattle.file_tree.specs.declared.node.Node.{Node}
use Rattle.sector_device.specs.Moments.{Changes}
use Rattle.block_view.specs.Changes.{content_after}
use Rattle.log_reading.specs.Rings.{IsRingPlace}
use Rattle.state_model.specs.Loads.{boot_block}
use Rattle.volume_model.specs.Volumes.{Volume, cluster_bits}
use Rattle.spares_at_mount.specs.volume_state.Trees.{tree_of}
use Rattle.spares_at_mount.specs.volume_mount.Boot.{KeepsBoot}
use Rattle.spares_at_mount.specs.volume_mount.Welcome.{IsWelcome}
use Rattle.spares_at_mount.specs.map_change.Parts.{MapParts}
use Rattle.spares_at_mount.specs.same_names.Names.{SameNames}
use Rattle.stream_laws.specs.Sharing.{StreamKey, stream_at, runs_in}
use Rattle.tree_model.specs.declared.script.Op.{Op}
use Rattle.spares_at_mount.specs.plan_owners.Agreeing.{log_key}
use Rattle.plan_draft.specs.declared.touched.Touched.{Touched}
use Rattle.spares_at_mount.specs.plan_spares.Plans.{HasOwnLists}
use Rattle.writes_keep.specs.plans_keep.Keeping.{AreFinished}
use Rattle.writes_keep.specs.data_plan.declared.change.DataChange.{DataChange}
use Rattle.writes_keep.specs.data_plan.Changes.{growth_of}
use Rattle.writes_keep.specs.made_data.Made.{record_with_data}
use Rattle.writes_keep.specs.file_puts.declared.streams.VolumeStreams.{VolumeStreams}
use Rattle.writes_keep.specs.file_puts.Written.{AreStreamsOf, WritesBy, HasWritten}
use Rattle.writes_keep.specs.Writes.{HasWholeSectors, IsOffLog, IsQuiet}
use Rattle.spares_at_mount.specs.txn_model.Values.{StoreFacts}
use Rattle.spares_at_mount.specs.txn_core.Views.{present_on}
use Rattle.spares_at_mount.specs.Mounts.{LiesInLog}
use Rattle.spares_at_mount.specs.image_open.Writing.{found_by}
use Rattle.spares_at_mount.specs.state_store.Volumes.{geometry_of, IsStateOf, SparesState}
use Rattle.spares_at_mount.specs.state_store.Changes.{MayLog, AreApart, LeadsOn}

-- In a state of which this is the map, and this the table of upper-case units, a draft has put what comes of a file's data, and the operation has changed the tree; the changes are
-- those of the draft. No attribute list has a part in another record, and no sector by which the state is judged is torn.
pub record IsFilePlan (m : MapParts) (table : List ℕ) (c : Content) (s : VolumeStreams) (op : Op) (n stamp : ℕ) (a : Node) (r : Record) (x : DataChange) (new : List Touched) (changes : List Change) : Type 0 where
  pub state : IsStateOf m table c
  pub writes : WritesBy c (geometry_of m) m.volume.clusters m.volume s op n stamp a r (record_with_data r) x new
  pub written : HasWritten c (geometry_of m) m.volume.clusters m.volume op n stamp a (growth_of (cluster_bits c m.volume) r op a) new
  pub finished : AreFinished c new changes
  pub lists : HasOwnLists c m.volume
  pub whole : HasWholeSectors c m.volume

-- The changes lead on as a volume asks, and are apart, and the files keep their names. Behind them too no attribute list has a part in another record; the file table, its mirror and the bits of clusters have these extents; there
-- is no change journal; and the streams of the volume's own files in which no operation writes, the log's among them, keep their clusters. Each change lies off the clusters of the log, and off
-- record 2 where the boot sector says. A state that a mount takes leads to one that it takes too.
pub record LeadsAsAsked (m : MapParts) (table : List ℕ) (c : Content) (s : VolumeStreams) (changes : List Change) : Type 0 where
  pub leads : LeadsOn m table changes c
  pub names : SameNames m.volume.files leads.volume.files
  pub apart : AreApart changes
  pub lists : HasOwnLists (content_after changes c) leads.volume
  pub streams : AreStreamsOf leads.volume s
  pub journal : (tree_of (content_after changes c) leads.volume).journal ≡ None
  pub boot : (t : StreamKey) → IsQuiet t.file → runs_in (stream_at leads.volume t) ≡ runs_in (stream_at m.volume t)
  pub log : runs_in (stream_at leads.volume log_key) ≡ runs_in (stream_at m.volume log_key)
  pub off : AllByRecursion (λ x. IsOffLog m.volume x.block) changes
  pub second : AllByRecursion (λ x. overlap x.block (boot_block (geometry_of m) 2) ≡ false) changes
  pub welcome : IsWelcome c m.volume → IsWelcome (content_after changes c) leads.volume

-- the store's log is that of the volume, whose clusters lie on the device, and is found by these blocks: the boot sector, and record 2
pub record HasLogOf (f : StoreFacts) (m : MapParts) : Type 0 where
  pub ring : IsRingPlace f.place
  pub lies : LiesInLog f.place m.volume
  pub clusters : f.place.clusters ≡ m.volume.clusters
  pub device : 8 * m.volume.clusters ≤ f.place.device
  pub found : f.found ≡ found_by (geometry_of m)

-- A volume takes the changes of such a plan: they lead on, and its store may log each, where no stream but $Boot's data has the first cluster, in which the boot sector lies, and its bit is
-- set. Where a store spares a state, no sector is torn by which this is judged.
pub record PlansLeadOn : Type 0 where
  pub leads : (m : MapParts) (table : List ℕ) (c : Content) (s : VolumeStreams) (op : Op) (n stamp : ℕ) (a : Node) (r : Record) (x : DataChange) (new : List Touched) (changes : List Change) → IsFilePlan m table c s op n stamp a r x new changes → LeadsAsAsked m table c s changes
  pub logged : (m : MapParts) (table : List ℕ) (c : Content) (s : VolumeStreams) (op : Op) (n stamp : ℕ) (a : Node) (r : Record) (x : DataChange) (new : List Touched) (changes : List Change) (f : StoreFacts) → IsFilePlan m table c s op n stamp a r x new changes → HasLogOf f m → KeepsBoot c m.volume → All (MayLog f) changes
  pub whole : (moments : Changes) (f : StoreFacts) (v : Volume) (disk : List (List ℕ)) → SparesState moments f v disk → HasWholeSectors (present_on disk f) v
