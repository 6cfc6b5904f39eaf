-- The file table of a volume grows: record 0 has its unnamed data in more clusters, and a bitmap with a bit for each new number.
use Rattle.std.specs.Prelude.{◌≡◌, ◌≢◌, ◌⊎◌, ◌+◌, ◌*◌, ◌<◌, ◌≤◌, ◌||◌, ℕ, nat_le, false, List, [], ◌∷◌, ◌++◌, Option, Some}
use Rattle.std.specs.List.{AllByRecursion}
use Rattle.disk_model.specs.declared.block.Block.{Block}
use Rattle.disk_model.specs.declared.block.BlockKind.{BlockKind}
use Rattle.disk_model.specs.declared.block.BlockKind.TheVariants.{FileRec, Plain}
use Rattle.disk_model.specs.Content.{Content, HasSizes, is_signed}
use Rattle.record_model.specs.declared.runs.Run.{Run}
use Rattle.record_model.specs.Constants.{bitmap_type, data_type}
use Rattle.record_model.specs.Pairs.{cluster_limit, HasSpelling}
use Rattle.record_model.specs.Records.{Record}
use Rattle.host_base.specs.declared.file_ref.FileRef.{FileRef}
use Rattle.file_tree.specs.declared.tree.Tree.{Tree}
use Rattle.file_tree.specs.Walks.{first_user_record}
use Rattle.bit_set.specs.Bits.{bit}
use Rattle.bit_set.specs.Words.{byte_bit}
use Rattle.state_model.specs.declared.geometry.Geometry.{Geometry}
use Rattle.state_model.specs.declared.stream.Extents.{Extents}
use Rattle.state_model.specs.declared.stream.Stream.{Stream}
use Rattle.state_model.specs.declared.stream.Stream.TheVariants.{Held, Placed}
use Rattle.state_model.specs.Files.{links_at}
use Rattle.state_model.specs.Loads.{most_records, record_count, total_clusters}
use Rattle.state_model.specs.Streams.{block_at, real_size, stream_bytes, stream_of}
use Rattle.volume_model.specs.Volumes.{Volume, cluster_bits, file_in, files_by_number, record_bits, table_file}
use Rattle.volume_model.specs.Owners.{uses}
use Rattle.volume_state.specs.Trees.{tree_of}
use Rattle.stream_laws.specs.Owners.{initialised_in}
use Rattle.stream_laws.specs.Places.{AreApart}
use Rattle.stream_laws.specs.Sharing.{runs_in, stream_at, StreamKey}
use Rattle.stream_laws.specs.Tables.{table_key}
use Rattle.plan_growth.specs.tree_laws.Contents.{SameIndexAt, SameUpper}
use Rattle.plan_growth.specs.tree_laws.Growth.{new_number, new_numbers}
use Rattle.plan_growth.specs.tree_laws.Steps.{stepped}
use Rattle.stream_runs.specs.Runs.{grown}
use Rattle.record_values.specs.record_streams.Placing.{placed_record}
use Rattle.record_values.specs.Values.{valued_record}
use Rattle.plan_growth.specs.resized_streams.Resizing.{cluster_bytes, lengthened, unplaced, with_sizes}
use Rattle.plan_bodies.specs.Bodies.{AreBodies, body_in, content_with, NewBody}
use Rattle.plan_growth.specs.plan_owners.States.{Stands}
use Rattle.plan_growth.specs.plan_model.Drafts.{GoesOn, gives_runs, IsPut}
use Rattle.plan_growth.specs.plan_model.Edits.{IsOwnedIn}
use Rattle.plan_growth.specs.plan_model.Made.{ReadsAs}
use Rattle.plan_growth.specs.Growing.{MayGive}
use Rattle.plan_growth.specs.Streams.{IsWritten, marks_streams, MayTake}

-- ---- the table

-- how many clusters come, and how many records
abbrev pub new_clusters : ℕ
new_clusters = 64

abbrev pub new_records : ℕ
new_records = 256

-- the table with these clusters behind its own, and the new records in its real and its initialised size
abbrev pub longer_table : ℕ → List Run → Extents → Extents
longer_table per more e = with_sizes (e.real + 1024 * new_records) (e.initialised + 1024 * new_records) (lengthened per more e)

-- ---- the bitmap of its numbers

abbrev pub numbers_key : StreamKey
numbers_key = record { file = table_file; kind = bitmap_type; name = [] }

-- a stream takes these clusters behind its own, and has other sizes, for which all of them have room; the initialised one is no smaller
pub record TakesBits (per : ℕ) (more : List Run) (e f : Extents) : Type 0 where
  pub spelled : HasSpelling 0 e.runs
  pub few : total_clusters e.runs + total_clusters more ≤ cluster_limit
  pub runs : f.runs ≡ grown e.runs more
  pub allocated : f.allocated ≡ total_clusters f.runs * cluster_bytes per
  pub initialised : e.initialised ≤ f.initialised
  pub lawful : f.initialised ≤ f.real
  pub room : f.real ≤ f.allocated

-- a value in record 0 is another value, and takes no cluster, or leaves record 0 for these, as a stream that had none; one in clusters
-- takes these
abbrev pub BitmapBecomes : ℕ → List Run → Stream → Stream → Type 0
BitmapBecomes per more (Held value) (Held bytes) = more ≡ []
BitmapBecomes per more (Held value) (Placed f) = TakesBits per more (unplaced 0) f
BitmapBecomes per more (Placed e) (Held bytes) = ⊥
BitmapBecomes per more (Placed e) (Placed f) = TakesBits per more e f

-- ---- record 0

-- a record of which the bitmap is this stream
abbrev pub with_bitmap : ℕ → Stream → Record → Record
with_bitmap per (Held value) r = valued_record bitmap_type [] value r
with_bitmap per (Placed e) r = placed_record per bitmap_type [] e r

-- record 0 of which the unnamed data are these clusters, and the bitmap is this stream
abbrev pub table_record : ℕ → Extents → Stream → Record → Record
table_record per e bitmap r = with_bitmap per bitmap (placed_record per data_type [] e r)

-- the volume with the longer table, and this record 0
abbrev pub longer_volume : Volume → List Run → Record → Volume
longer_volume v more s = stepped v (longer_table v.per more v.table) (record { number = table_file; file = Some s } ∷ [])

-- ---- what is put

-- the block of a record of the longer table that the old one hadn't, in clusters that came or behind the last old record
abbrev pub IsNewRecord : Volume → List Run → Block → Type 0
IsNewRecord v more b = (m : ℕ) × (record_count v.table ≤ m) × (m < record_count v.table + new_records) × (block_at v.per (longer_table v.per more v.table).runs FileRec m ≡ Some b)

-- a sector of the new bitmap
abbrev pub IsNumbersSector : Volume → Stream → Block → Type 0
IsNumbersSector v bitmap b = (m : ℕ) × (block_at v.per (runs_in (Some bitmap)) Plain m ≡ Some b)

-- the block belongs to the bitmap of clusters or to the mirror, it is record 0's or a new record's, or it belongs to the bitmap of numbers
abbrev pub IsOfTable : Volume → List Run → Stream → Block → Type 0
IsOfTable v more bitmap b = IsOwnedIn marks_streams v b ⊎ (block_at v.per v.table.runs FileRec table_file ≡ Some b) ⊎ IsNewRecord v more b ⊎ IsNumbersSector v bitmap b

-- a body is put into the block that doesn't begin FILE, as one of zeros
pub record IsPutBlank (bodies : List NewBody) (b : Block) : Type 0 where
  pub bytes : List ℕ
  pub put : body_in bodies b ≡ Some bytes
  pub unsigned : is_signed FileRec bytes ≡ false

-- ---- the law

-- The file table of record 0 takes 64 clusters, which are clear, and has 256 records more; the bitmap of numbers becomes one with a bit for
-- each, and takes these clusters, which are clear too. Record 0 is put so; all else that is put goes to the bitmap of clusters, the mirror,
-- the bitmap of numbers and the new records. Each block of these is put whole and doesn't begin FILE, and so is each sector of the bitmap that comes to be
-- initialised. The bits of the clusters that came become set, and the others stay. The new
-- bitmap has the bits of the old one, and those of the new numbers clear.
pub record GrowsVolumeTable (c : Content) (v : Volume) (r : Record) (more : List Run) (old : Stream) (bits_more : List Run) (new : Stream) (s : Record) (bodies : List NewBody) : Type 0 where
  pub file : file_in v table_file ≡ Some r
  pub bitmap : stream_of bitmap_type [] r.attrs ≡ Some old
  pub spelled : HasSpelling 0 v.table.runs
  pub size : total_clusters more ≡ new_clusters
  pub room : total_clusters v.table.runs + new_clusters ≤ cluster_limit
  pub few : record_count v.table + new_records ≤ most_records
  pub taken : MayTake v.clusters (cluster_bits c v) more
  pub becomes : BitmapBecomes v.per bits_more old new
  pub bits_taken : MayTake v.clusters (cluster_bits c v) bits_more
  pub apart : AreApart more bits_more
  pub enough : record_count v.table + new_records ≤ 8 * real_size new
  pub written : IsWritten (table_record v.per (longer_table v.per more v.table) new r) s
  pub whole : AreBodies bodies
  pub anew : ReadsAs v bodies table_file s
  pub each : AllByRecursion (λ p. IsOfTable v more new p.block) bodies
  pub records : (m : ℕ) (b : Block) → record_count v.table ≤ m → 1024 * m < (longer_table v.per more v.table).initialised → block_at v.per (longer_table v.per more v.table).runs FileRec m ≡ Some b → IsPutBlank bodies b
  pub covers : (m : ℕ) (b : Block) → block_at v.per (runs_in (Some new)) Plain m ≡ Some b → initialised_in (Some old) ≤ 512 * m → 512 * m < initialised_in (Some new) → IsPut bodies b
  pub marked : (x : ℕ) → x < v.clusters → bit (cluster_bits (content_with c bodies) v) x ≡ (nat_le 1 (uses more x) || nat_le 1 (uses bits_more x) || bit (cluster_bits c v) x)
  pub numbers : (m : ℕ) → m < record_count v.table + new_records → byte_bit (stream_bytes (content_with c bodies) v.per new) m ≡ bit (record_bits c v) m

-- the trees are the same, but for the count of records, the new numbers, which are spare and have the sequence 1, and so many clusters that
-- are free no more
pub record HasLongerTable (came : ℕ) (t u : Tree) : Type 0 where
  pub nodes : u.nodes ≡ t.nodes
  pub links : u.links ≡ t.links
  pub spare : u.spare ≡ t.spare ++ new_numbers t.count u.count
  pub count : u.count ≡ t.count + new_records
  pub journal : u.journal ≡ t.journal
  pub room : u.room + came ≡ t.room

-- the table's clusters are given as file records, and those of the bitmap as sectors
abbrev pub gives_table : List Run → List Run → (ℕ → Option BlockKind) → ℕ → Option BlockKind
gives_table more bits_more gave = gives_runs Plain bits_more (gives_runs FileRec more gave)

-- Then a state becomes one with the longer table, which is a stream of it beside the new bitmap; the other files and streams stay, all names do, and
-- the old records where they lie. No block of $UpCase or of a directory's index changes. Its tree has the new numbers, and the nodes from before, that of
-- record 0 among them. It is an edit of a plan, where the clusters that come may be given as these kinds.
pub record TableIsGrown : Type 0 where
  pub stands : (c : Content) (g : Geometry) (clusters : ℕ) (v : Volume) (r : Record) (more : List Run) (old : Stream) (bits_more : List Run) (new : Stream) (s : Record) (bodies : List NewBody) → HasSizes c → g.per_cluster ≡ 8 → Stands c g clusters v
      → GrowsVolumeTable c v r more old bits_more new s bodies → Stands (content_with c bodies) g clusters (longer_volume v more s)
  pub file : (c : Content) (g : Geometry) (clusters : ℕ) (v : Volume) (r : Record) (more : List Run) (old : Stream) (bits_more : List Run) (new : Stream) (s : Record) (bodies : List NewBody) → HasSizes c → g.per_cluster ≡ 8 → Stands c g clusters v
      → GrowsVolumeTable c v r more old bits_more new s bodies → file_in (longer_volume v more s) table_file ≡ Some s
  pub table : (c : Content) (g : Geometry) (clusters : ℕ) (v : Volume) (r : Record) (more : List Run) (old : Stream) (bits_more : List Run) (new : Stream) (s : Record) (bodies : List NewBody) → HasSizes c → g.per_cluster ≡ 8 → Stands c g clusters v
      → GrowsVolumeTable c v r more old bits_more new s bodies → stream_at (longer_volume v more s) table_key ≡ Some (Placed (longer_table v.per more v.table))
  pub bitmap : (c : Content) (g : Geometry) (clusters : ℕ) (v : Volume) (r : Record) (more : List Run) (old : Stream) (bits_more : List Run) (new : Stream) (s : Record) (bodies : List NewBody) → HasSizes c → g.per_cluster ≡ 8 → Stands c g clusters v
      → GrowsVolumeTable c v r more old bits_more new s bodies → stream_at (longer_volume v more s) numbers_key ≡ Some new
  pub others : (c : Content) (g : Geometry) (clusters : ℕ) (v : Volume) (r : Record) (more : List Run) (old : Stream) (bits_more : List Run) (new : Stream) (s : Record) (bodies : List NewBody) (n : ℕ) → HasSizes c → g.per_cluster ≡ 8 → Stands c g clusters v
      → GrowsVolumeTable c v r more old bits_more new s bodies → n ≢ table_file → file_in (longer_volume v more s) n ≡ file_in v n
  pub streams : (c : Content) (g : Geometry) (clusters : ℕ) (v : Volume) (r : Record) (more : List Run) (old : Stream) (bits_more : List Run) (new : Stream) (s : Record) (bodies : List NewBody) (t : StreamKey) → HasSizes c → g.per_cluster ≡ 8 → Stands c g clusters v
      → GrowsVolumeTable c v r more old bits_more new s bodies → (t ≡ table_key) ⊎ (t ≡ numbers_key) ⊎ (stream_at (longer_volume v more s) t ≡ stream_at v t)
  pub places : (c : Content) (g : Geometry) (clusters : ℕ) (v : Volume) (r : Record) (more : List Run) (old : Stream) (bits_more : List Run) (new : Stream) (s : Record) (bodies : List NewBody) (m : ℕ) → HasSizes c → g.per_cluster ≡ 8 → Stands c g clusters v
      → GrowsVolumeTable c v r more old bits_more new s bodies → m < record_count v.table → block_at v.per (longer_table v.per more v.table).runs FileRec m ≡ block_at v.per v.table.runs FileRec m
  pub names : (c : Content) (g : Geometry) (clusters : ℕ) (v : Volume) (r : Record) (more : List Run) (old : Stream) (bits_more : List Run) (new : Stream) (s : Record) (bodies : List NewBody) (m : ℕ) → HasSizes c → g.per_cluster ≡ 8 → Stands c g clusters v
      → GrowsVolumeTable c v r more old bits_more new s bodies → links_at (files_by_number (longer_volume v more s)) m ≡ links_at (files_by_number v) m
  pub upper : (c : Content) (g : Geometry) (clusters : ℕ) (v : Volume) (r : Record) (more : List Run) (old : Stream) (bits_more : List Run) (new : Stream) (s : Record) (bodies : List NewBody) → HasSizes c → g.per_cluster ≡ 8 → Stands c g clusters v
      → GrowsVolumeTable c v r more old bits_more new s bodies → SameUpper c (content_with c bodies) v
  pub indexes : (c : Content) (g : Geometry) (clusters : ℕ) (v : Volume) (r : Record) (more : List Run) (old : Stream) (bits_more : List Run) (new : Stream) (s : Record) (bodies : List NewBody) (m : ℕ) → HasSizes c → g.per_cluster ≡ 8 → Stands c g clusters v
      → GrowsVolumeTable c v r more old bits_more new s bodies → SameIndexAt c (content_with c bodies) v m
  pub tree : (c : Content) (g : Geometry) (clusters : ℕ) (v : Volume) (r : Record) (more : List Run) (old : Stream) (bits_more : List Run) (new : Stream) (s : Record) (bodies : List NewBody) → HasSizes c → g.per_cluster ≡ 8 → Stands c g clusters v
      → GrowsVolumeTable c v r more old bits_more new s bodies → HasLongerTable (new_clusters + total_clusters bits_more) (tree_of c v) (tree_of (content_with c bodies) (longer_volume v more s))
  pub goes_on : (first : Content) (start : Volume) (c : Content) (g : Geometry) (clusters : ℕ) (v : Volume) (r : Record) (more : List Run) (old : Stream) (bits_more : List Run) (new : Stream) (s : Record) (bodies : List NewBody) (gave : ℕ → Option BlockKind) → HasSizes c → g.per_cluster ≡ 8
      → Stands c g clusters v → GrowsVolumeTable c v r more old bits_more new s bodies → MayGive first start FileRec more gave → MayGive first start Plain bits_more gave
      → GoesOn first start c g clusters v bodies (longer_volume v more s) gave (gives_table more bits_more gave)

-- Where no number was spare, and the table had those of the volume's own files, the lowest that is spare then is the old count, of
-- sequence 1.
abbrev pub NewNumberIsFirst : Type 0
NewNumberIsFirst = (came : ℕ) (t u : Tree) → HasLongerTable came t u → t.spare ≡ [] → first_user_record ≤ t.count → (others : List FileRef) × (u.spare ≡ new_number t.count ∷ others)
