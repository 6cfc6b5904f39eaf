-- What an operation on files leaves of the blocks from which a state is read, and that one which writes or cuts a file leaves this.
use Rattle.std.specs.Prelude.{◌≡◌, ◌≢◌, ◌⊎◌, ℕ, ◌<◌, ◌≤◌, true, false, List, None}
use Rattle.std.specs.List.{AllByRecursion}
use Rattle.disk_model.specs.declared.block.Block.{Block}
use Rattle.disk_model.specs.declared.block.BlockKind.TheVariants.{Plain}
use Rattle.disk_model.specs.declared.block.Change.{Change}
use Rattle.disk_model.specs.Content.{Content}
use Rattle.disk_model.specs.Sectors.{overlap}
use Rattle.record_model.specs.Records.{Record}
use Rattle.file_tree.specs.declared.node.Node.{Node}
use Rattle.file_tree.specs.Walks.{root, first_user_record}
use Rattle.bit_set.specs.Bits.{bit}
use Rattle.log_model.specs.Logs.{is_in_grid}
use Rattle.state_model.specs.declared.geometry.Geometry.{Geometry}
use Rattle.state_model.specs.Loads.{boot_block}
use Rattle.volume_model.specs.Volumes.{Volume, count_of, file_in, table_file, mirror_file, bitmap_file, cluster_bits, upper_of}
use Rattle.volume_model.specs.Owners.{uses}
use Rattle.names_stay.specs.volume_state.Trees.{tree_of}
use Rattle.stream_laws.specs.Sharing.{StreamKey, stream_at, runs_in}
use Rattle.tree_model.specs.declared.script.Op.{Op}
use Rattle.names_stay.specs.plan_owners.Agreeing.{IsJudged, log_key}
use Rattle.names_stay.specs.plan_owners.Kinds.{cluster_of}
use Rattle.plan_bodies.specs.Bodies.{NewBody, content_with}
use Rattle.plan_draft.specs.declared.touched.Touched.{Touched}
use Rattle.plans_keep.specs.plan_spares.Plans.{HasOwnLists}
use Rattle.plans_keep.specs.Keeping.{AreFinished, ChangesKeep}
use Rattle.names_stay.specs.data_plan.declared.change.DataChange.{DataChange}
use Rattle.names_stay.specs.data_plan.Changes.{growth_of}
use Rattle.names_stay.specs.made_data.Made.{record_with_data}
use Rattle.names_stay.specs.file_puts.declared.streams.VolumeStreams.{VolumeStreams}
use Rattle.names_stay.specs.file_puts.Written.{AreStreamsOf, WritesBy, HasWritten}

-- no sector by which the state is judged is torn
abbrev pub HasWholeSectors : Content → Volume → Type 0
HasWholeSectors c v = (b : Block) → IsJudged v b → b.kind ≡ Plain → (c b).torn ≡ false

-- the block lies in the grid, in a cluster of the volume that is none of the log's
pub record IsOffLog (v : Volume) (b : Block) : Type 0 where
  pub grid : is_in_grid b ≡ true
  pub inside : cluster_of b < v.clusters
  pub apart : uses (runs_in (stream_at v log_key)) (cluster_of b) ≡ 0

-- An operation on files may write in the streams of this file: it is the file table, its mirror, the root directory, the bits of clusters, or a user's.
abbrev pub IsWritten : ℕ → Type 0
IsWritten n = (n ≡ table_file) ⊎ ((n ≡ mirror_file) ⊎ ((n ≡ root) ⊎ ((n ≡ bitmap_file) ⊎ (first_user_record ≤ n))))

-- it never writes there: the file is one of the volume itself, and none of these
abbrev pub IsQuiet : ℕ → Type 0
IsQuiet n = IsWritten n → ⊥

-- The cluster is set aside: its bit is set, and none of the streams in which an operation on files writes has it.
pub record IsSetAside (c : Content) (v : Volume) (x : ℕ) : Type 0 where
  pub marked : bit (cluster_bits c v) x ≡ true
  pub others : (t : StreamKey) → IsWritten t.file → uses (runs_in (stream_at v t)) x ≡ 0

-- The changes lead on as a volume asks. Behind them too no attribute list has a part in another record; the table of upper-case units is the same; the file table, its mirror and the bits of
-- clusters have these extents; there is no change journal; and the streams of the volume's own files in which no operation writes, the log's and the boot sector's among them, keep their clusters. No
-- change lies in a cluster of such a stream; nor is one of record 2 where the boot sector says. There are as many records or more, and the volume's own files but the file table and the root directory
-- are those that they were. No stream comes to have a cluster of which the bit was set, and one that was set aside stays so and has no change.
pub record WriteKeeps (c : Content) (g : Geometry) (v : Volume) (s : VolumeStreams) (bodies : List NewBody) (changes : List Change) (w : Volume) : Type 0 where
  pub keeps : ChangesKeep c v bodies changes w
  pub lists : HasOwnLists (content_with c bodies) w
  pub upper : upper_of (content_with c bodies) w ≡ upper_of c v
  pub streams : AreStreamsOf w s
  pub journal : (tree_of (content_with c bodies) w).journal ≡ None
  pub boot : (t : StreamKey) → IsQuiet t.file → runs_in (stream_at w t) ≡ runs_in (stream_at v t)
  pub log : runs_in (stream_at w log_key) ≡ runs_in (stream_at v log_key)
  pub off : AllByRecursion (λ x. IsOffLog v x.block) changes
  pub others : (t : StreamKey) (x : ℕ) → IsQuiet t.file → 0 < uses (runs_in (stream_at v t)) x → AllByRecursion (λ y. cluster_of y.block ≢ x) changes
  pub second : AllByRecursion (λ x. overlap x.block (boot_block g 2) ≡ false) changes
  pub count : count_of v ≤ count_of w
  pub files : (m : ℕ) → m < first_user_record → m ≢ table_file → m ≢ root → file_in w m ≡ file_in v m
  pub takes : (t : StreamKey) (x : ℕ) → bit (cluster_bits c v) x ≡ true → uses (runs_in (stream_at w t)) x ≤ uses (runs_in (stream_at v t)) x
  pub aside : (x : ℕ) → x < v.clusters → IsSetAside c v x → IsSetAside (content_with c bodies) w x
  pub spares : (x : ℕ) → x < v.clusters → IsSetAside c v x → AllByRecursion (λ y. cluster_of y.block ≢ x) changes

-- So do those of a draft that has put what comes of a file's data, by its record or by that with data which is empty, where no attribute list has a part in another record, and no sector by which the state is judged is torn.
abbrev pub WritesKeep : Type 0
WritesKeep = (c : Content) (g : Geometry) (clusters : ℕ) (v : Volume) (s : VolumeStreams) (op : Op) (n stamp : ℕ) (a : Node) (r : Record) (change : DataChange) (new : List Touched) (changes : List Change) → WritesBy c g clusters v s op n stamp a r (record_with_data r) change new
    → (h : HasWritten c g clusters v op n stamp a (growth_of (cluster_bits c v) r op a) new) → AreFinished c new changes → HasOwnLists c v → HasWholeSectors c v → WriteKeeps c g v s h.bodies changes h.after
