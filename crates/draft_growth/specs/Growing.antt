-- A file table that grows by 64 clusters and 256 records.
use Rattle.std.specs.Prelude.{◌≡◌, ℕ, zero, suc, ◌+◌, ◌-◌, ◌*◌, ◌/◌, ◌%◌, ◌<◌, ◌≤◌, ◌^◌, max, true, false, Bool, not, nat_le, IfSome, Result, Ok, Err, List, [], ◌++◌, count_by, length}
use Rattle.host_base.specs.Answers.{◌>>=◌, needs}
use Rattle.disk_model.specs.Bytes.{zeros}
use Rattle.disk_model.specs.Content.{Content}
use Rattle.record_model.specs.Constants.{data_type}
use Rattle.record_model.specs.declared.runs.Run.{Run}
use Rattle.record_model.specs.Pairs.{cluster_limit, HasSpelling}
use Rattle.record_model.specs.Records.{Record}
use Rattle.draft_bitmaps.specs.state_model.declared.stream.Extents.{Extents}
use Rattle.draft_bitmaps.specs.state_model.declared.stream.Stream.{Stream}
use Rattle.draft_bitmaps.specs.state_model.declared.stream.Stream.TheVariants.{Held, Placed}
use Rattle.draft_bitmaps.specs.state_model.Loads.{most_records, total_clusters}
use Rattle.draft_bitmaps.specs.space_model.Choosing.{chosen, with_runs}
use Rattle.draft_bitmaps.specs.stream_runs.Runs.{last_cluster}
use Rattle.draft_bitmaps.specs.record_streams.Placing.{placed_record}
use Rattle.draft_bitmaps.specs.plan_draft.declared.touched.Touched.{Touched}
use Rattle.draft_bitmaps.specs.resized_streams.declared.resized.Resized.{Resized}
use Rattle.draft_bitmaps.specs.resized_streams.Resizing.{lengthened, clusters_for, unplaced, with_sizes}
use Rattle.draft_bitmaps.specs.draft_streams.Parts.{touch_bytes}
use Rattle.draft_numbers.specs.draft_records.Records.{fits_room, record_block, touch_if}
use Rattle.draft_bitmaps.specs.declared.bitmap.Bitmap.{Bitmap}
use Rattle.draft_bitmaps.specs.Bitmaps.{with_value, with_record, IsBitmap, PutsBitsOf}
use Rattle.draft_growth.specs.declared.table.Table.{Table}
use Rattle.draft_growth.specs.declared.longer.Longer.{Longer}
use Rattle.draft_growth.specs.Clusters.{PutsRunsOf}

-- ---- the records

abbrev pub table_clusters : ℕ
table_clusters = 64

abbrev pub table_records : ℕ
table_records = 256

abbrev pub record_count : Extents → ℕ
record_count e = e.real / 1024

-- of a size that has 256 records more
abbrev pub larger : Extents → Extents
larger e = with_sizes (e.real + 1024 * table_records) (e.initialised + 1024 * table_records) e

-- the records' stream takes these runs and has 256 records more: record 0 has it so, and none of its clusters is given back
pub record IsLongerData (per : ℕ) (t : Table) (more : List Run) (z : Resized) : Type 0 where
  pub extents : z.extents ≡ larger (lengthened per more t.extents)
  pub file : z.file ≡ placed_record per data_type [] (larger (lengthened per more t.extents)) (placed_record per data_type [] (lengthened per more t.extents) t.bitmap.file)
  pub taken : z.taken.items ≡ more

-- ---- their bitmap

-- the bytes of a bitmap of so many numbers
abbrev pub bytes_for : ℕ → ℕ
bytes_for count = (count + 7) / 8

-- the bitmap in record 0 as it is in this file
abbrev pub in_file : Record → Bitmap → Bitmap
in_file r b = record { number = b.number; kind = b.kind; file = r; stream = b.stream }

-- of at least so many bytes, with these clusters more behind its own; the initialised size stays
abbrev pub roomier : ℕ → ℕ → List Run → Extents → Extents
roomier per size more e = with_sizes (max e.real size) e.initialised (lengthened per more e)

-- the size that a bitmap of at least so many bytes has to have room for: a value keeps its bytes
abbrev pub size_in : Stream → ℕ → ℕ
size_in (Held value) size = max (length value) size
size_in (Placed e) size = size

-- a value with zeros behind it, up to so many bytes
abbrev pub filled_up : ℕ → List ℕ → List ℕ
filled_up size value = value ++ zeros (size - length value)

-- whether a record has room
abbrev pub has_room : Result (Unit {0}) ℕ → Bool
has_room (Ok fits) = true
has_room (Err used) = false

-- a value that stays in its record; or one that leaves it, as a stream that has no cluster yet
abbrev pub stays_or_leaves : Result (Unit {0}) ℕ → List ℕ → ℕ → Stream
stays_or_leaves (Ok fits) value size = Held value
stays_or_leaves (Err used) value size = Placed (unplaced size)

-- The stream that gets room for so many bytes: one in clusters; a value, as long as its record has room with the longer one; and else that
-- value in clusters of its own.
abbrev pub standing_in : Stream → ℕ → Bitmap → Stream
standing_in (Held value) size b = stays_or_leaves (fits_room (with_value (filled_up size value) b).file) value size
standing_in (Placed e) size b = Placed e

abbrev pub standing : ℕ → Bitmap → Stream
standing size b = standing_in b.stream size b

-- the bytes that leave the record, if any do
abbrev pub leaving : Stream → Stream → ℕ → List ℕ
leaving (Held value) (Held bytes) size = []
leaving (Held value) (Placed e) size = filled_up size value
leaving (Placed e) s size = []

-- which clusters a bitmap takes for so many bytes; a value takes none
abbrev pub more_for : ℕ → ℕ → List Bool → Stream → List Run
more_for per size bits (Held value) = []
more_for per size bits (Placed e) = chosen bits (last_cluster e.runs) (clusters_for per size - total_clusters e.runs)

-- the bitmap in these clusters, of so many sectors each, in this file
abbrev pub placed_in : ℕ → Extents → Record → Bitmap → Bitmap
placed_in per e r b = record { number = b.number; kind = b.kind; file = placed_record per b.kind [] e r; stream = Placed e }

-- the bitmap with at least so many bytes, in its record or in clusters
abbrev pub with_room : ℕ → ℕ → List Run → Stream → Bitmap → Bitmap
with_room per size more (Held value) b = with_value (filled_up size value) b
with_room per size more (Placed e) b = placed_in per (roomier per size more e) (placed_record per b.kind [] (lengthened per more e) b.file) b

-- as this stream it takes clusters for so many bytes, and has room for them; the bytes leave its record that have to
pub record IsLongerAs (s : Stream) (per size : ℕ) (bits : List Bool) (b : Bitmap) (l : Longer) : Type 0 where
  pub taken : l.taken.items ≡ more_for per size bits s
  pub bitmap : l.bitmap ≡ with_room per size (more_for per size bits s) s b
  pub leaves : l.leaving ≡ leaving b.stream s size

abbrev pub IsLonger : ℕ → ℕ → List Bool → Bitmap → Longer → Type 0
IsLonger per size bits b l = IsLongerAs (standing size b) per size bits b l

-- the bytes that left the record put into its clusters, whose sectors are all fresh
abbrev pub with_leaving : Content → ℕ → Stream → List ℕ → List Touched → List Touched
with_leaving c per (Held value) bytes touched = touched
with_leaving c per (Placed e) bytes touched = touch_bytes c per e.runs 0 0 bytes touched

-- ---- the new records

-- a body put into a record's block, which is fresh
abbrev pub with_empty : Content → ℕ → Extents → List ℕ → ℕ → List Touched → List Touched
with_empty c per e body n touched = touch_if c (record_block per e n) true body touched

-- into so many from this number on
unfoldable pub with_empty_records : Content → ℕ → Extents → List ℕ → ℕ → ℕ → List Touched → List Touched
with_empty_records c per e body first zero touched = touched
with_empty_records c per e body first (suc n) touched = with_empty c per e body (first + n) (with_empty_records c per e body first n touched)

-- ---- record 0

-- record 0 with the records' stream of these runs more
abbrev pub with_records : ℕ → List Run → Table → Record
with_records per more t = placed_record per data_type [] (larger (lengthened per more t.extents)) (placed_record per data_type [] (lengthened per more t.extents) t.bitmap.file)

-- ---- the clusters

-- how many clusters a bitmap wants for so many bytes; a value wants none
abbrev pub wanted_for : ℕ → ℕ → Stream → ℕ
wanted_for per size (Held value) = 0
wanted_for per size (Placed e) = clusters_for per size - total_clusters e.runs

-- nothing, or how many bits are clear where these are fewer than are wanted
abbrev pub space_for : ℕ → List Bool → Result (Unit {0}) ℕ
space_for wanted bits = needs (nat_le wanted (count_by not bits)) (count_by not bits)

-- the bits when the records' clusters are taken
abbrev pub behind_records : List Bool → Table → List Bool
behind_records bits t = with_runs (chosen bits (last_cluster t.extents.runs) table_clusters) bits

-- the bytes for the numbers that there are then, and the size of their bitmap
abbrev pub numbers_bytes : Table → ℕ
numbers_bytes t = bytes_for (record_count t.extents + table_records)

abbrev pub bitmap_size : Table → ℕ
bitmap_size t = size_in t.bitmap.stream (numbers_bytes t)

-- the bitmap in record 0 with the records' stream of all its clusters
abbrev pub bitmap_behind : ℕ → List Bool → Table → Bitmap
bitmap_behind per bits t = in_file (with_records per (chosen bits (last_cluster t.extents.runs) table_clusters) t) t.bitmap

-- the stream that gets room for the new numbers
abbrev pub numbers_in : ℕ → List Bool → Table → Stream
numbers_in per bits t = standing (bitmap_size t) (bitmap_behind per bits t)

-- which clusters it takes
abbrev pub numbers_more : ℕ → List Bool → Table → List Run
numbers_more per bits t = more_for per (bitmap_size t) (behind_records bits t) (numbers_in per bits t)

-- the bits when those of its bitmap are taken too
abbrev pub behind_table : ℕ → List Bool → Table → List Bool
behind_table per bits t = with_runs (numbers_more per bits t) (behind_records bits t)

-- record 0 with both streams as they are then
abbrev pub grown_record : ℕ → List Bool → Table → Record
grown_record per bits t = (with_room per (bitmap_size t) (numbers_more per bits t) (numbers_in per bits t) (bitmap_behind per bits t)).file

-- nothing, or how many bits are clear where these are fewer than the records want, or than their bitmap wants then
abbrev pub space_of : ℕ → List Bool → Table → Result (Unit {0}) ℕ
space_of per bits t = space_for table_clusters bits >>= λ _. space_for (wanted_for per (bitmap_size t) (numbers_in per bits t)) (behind_records bits t)

-- ---- the table

-- bounds on a stream that grows: of clusters below so many, which follow one another
pub record MayGrow (clusters : ℕ) (e : Extents) : Type 0 where
  pub spelled : HasSpelling 0 e.runs
  pub few : length e.runs + 2048 ≤ 2 ^ 16
  pub total : total_clusters e.runs + 2048 ≤ cluster_limit
  pub last : IfSome (last_cluster e.runs) (λ at. at < clusters)
  pub real : e.real < 2 ^ 31
  pub initialised : e.initialised < 2 ^ 31

abbrev pub MayGrowIn : ℕ → ℕ → Stream → Type 0
MayGrowIn clusters size (Held value) = (length value ≤ 2 ^ 15) × (size ≤ 2 ^ 16)
MayGrowIn clusters size (Placed e) = MayGrow clusters e

-- the table of a volume with so many clusters: its records and their bitmap are streams of record 0
pub record IsTable (clusters : ℕ) (t : Table) : Type 0 where
  pub few : clusters ≤ cluster_limit
  pub records : MayGrow clusters t.extents
  pub bitmap : IsBitmap t.bitmap
  pub stream : MayGrowIn clusters (numbers_bytes t) t.bitmap.stream
  pub number : t.bitmap.number ≡ 0

-- the table has whole records, and with those that come not too many
pub record MayHaveMore (t : Table) : Type 0 where
  pub whole : t.extents.real % 1024 ≡ 0
  pub few : record_count t.extents + table_records ≤ most_records

-- record 0 is put, then what left it, and the bits of so many numbers from this one on are cleared in their bitmap
abbrev pub PutsTable : Content → ℕ → Extents → Extents → Bitmap → List ℕ → ℕ → List Touched → List Touched → Bitmap → Type 0
PutsTable c per table mirror b bytes first old new after = PutsBitsOf c per table mirror b first table_records false (with_leaving c per b.stream bytes (with_record c per table mirror b old)) new after

-- the clusters of both are set in their bitmap
abbrev pub PutsOwners : Content → ℕ → Extents → Extents → List Run → List Run → Bitmap → List Touched → List Touched → Bitmap → Type 0
PutsOwners c per table mirror own more b old new after = (between : Bitmap) × (mid : List Touched) × PutsRunsOf c per table mirror true own b old mid between × PutsRunsOf c per table mirror true more between mid new after

-- record 0 is put with both streams and what left it, the new numbers' bits are cleared and the clusters' set, and the new records are zeros
abbrev pub PutsGrown : Content → ℕ → Extents → Extents → List Run → Longer → Bitmap → ℕ → List Touched → List Touched → Bitmap → Bitmap → Type 0
PutsGrown c per table mirror taken l b first old new after clusters =
    (cleared : List Touched) × (marked : List Touched)
    × PutsTable c per table mirror l.bitmap l.leaving first old cleared after × PutsOwners c per table mirror taken l.taken.items b cleared marked clusters × (new ≡ with_empty_records c per table (zeros 1024) first table_records marked)

-- The table grows: record 0 has the longer streams, what left it stands in its clusters, the new numbers' bits are clear, the clusters that came are set in their bitmap, and
-- the new records are zeros, each written whole.
pub record GrowsTable (c : Content) (per : ℕ) (bits : List Bool) (mirror : Extents) (t : Table) (b : Bitmap) (old new : List Touched) (after : Table) (clusters : Bitmap) : Type 0 where
  pub records : Resized
  pub longer : Longer
  pub is_records : IsLongerData per t (chosen bits (last_cluster t.extents.runs) table_clusters) records
  pub is_longer : IsLonger per (bitmap_size t) (with_runs records.taken.items bits) (in_file records.file t.bitmap) longer
  pub put : PutsGrown c per records.extents mirror records.taken.items longer b (record_count t.extents) old new after.bitmap clusters
  pub lies : after.extents ≡ records.extents
