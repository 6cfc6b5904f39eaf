-- What a draft puts of a file table that grows first, as a step counts it.
use Rattle.std.specs.Prelude.{◌≡◌, ◌⊎◌, ℕ, ◌<◌, ◌≤◌, Bool, List, Some, Ok, Err, length}
use Rattle.disk_model.specs.Content.{Content}
use Rattle.record_model.specs.Constants.{data_type}
use Rattle.record_model.specs.Records.{Record}
use Rattle.state_model.specs.declared.stream.Stream.{Stream}
use Rattle.state_model.specs.declared.stream.Stream.TheVariants.{Held, Placed}
use Rattle.stream_runs.specs.Runs.{merged}
use Rattle.plan_draft.specs.declared.touched.Touched.{Touched}
use Rattle.draft_records.specs.Records.{fits_room}
use Rattle.draft_bitmaps.specs.declared.bitmap.Bitmap.{Bitmap}
use Rattle.draft_growth.specs.declared.table.Table.{Table}
use Rattle.draft_growth.specs.Growing.{behind_table, bitmap_size, grown_record, space_of, wanted_for, with_records, GrowsTable, IsTable, MayHaveMore}
use Rattle.planned_streams.specs.Planned.{bitmap_in, table_in}
use Rattle.table_edits.specs.Grown.{table_runs, numbers_runs}
use Rattle.grown_tables.specs.First.{MayBePut}
use Rattle.grown_tables.specs.Full.{MayBeCounted}
use Rattle.file_puts.specs.declared.streams.VolumeStreams.{VolumeStreams}
use Rattle.table_makes.specs.declared.grown.TableGrown.{TableGrown}

-- how many clusters its bitmap lacks
abbrev pub lacking : Table → ℕ
lacking t = wanted_for 8 (bitmap_size t) t.bitmap.stream

-- A bitmap that is a value is short. Where one in clusters lacks none, its runs are joined where they touch, and record 0 has room with the longer
-- table alone.
abbrev pub CountsTheSame : List Bool → Table → Stream → Type 0
CountsTheSame bits t (Held value) = length value ≤ 1024
CountsTheSame bits t (Placed e) = lacking t ≡ 0 → (merged e.runs ≡ e.runs) × (fits_room (with_records 8 (table_runs bits t) t) ≡ Ok tt)

-- The bitmap stands in clusters; and record 0 would use so many bytes with the longer table, and with the longer bitmap where that lacks some.
abbrev pub IsTooFullAs : List Bool → Table → ℕ → Stream → Type 0
IsTooFullAs bits t used (Held value) = ⊥
IsTooFullAs bits t used (Placed e) = ((lacking t ≡ 0) × (fits_room (with_records 8 (table_runs bits t) t) ≡ Err used)) ⊎ ((0 < lacking t) × (fits_room (grown_record 8 bits t) ≡ Err used))

-- The file table that record 0 has is one that a draft may let grow by clusters of these bits, and record 0 would use so many bytes then.
pub record IsTooFull (bits : List Bool) (file : Record) (used : ℕ) : Type 0 where
  pub t : Table
  pub is : table_in file ≡ Some t
  pub stands : IsTable (length bits) t
  pub more : MayHaveMore t
  pub full : IsTooFullAs bits t used t.bitmap.stream

-- The file table that record 0 has may grow by clusters of these bits as a step counts it: it is one that a draft may let grow, of whole records and not
-- too many then; enough clusters are clear; record 0 has room; and its bitmap is put and counted the same.
pub record GrowsAsCounted (bits : List Bool) (file : Record) (t : Table) : Type 0 where
  pub is : table_in file ≡ Some t
  pub stands : IsTable (length bits) t
  pub more : MayHaveMore t
  pub space : space_of 8 bits t ≡ Ok tt
  pub room : fits_room (grown_record 8 bits t) ≡ Ok tt
  pub put : MayBePut (numbers_runs 8 bits t) t.bitmap.stream
  pub counted : MayBeCounted (fits_room (with_records 8 (table_runs bits t) t)) (numbers_runs 8 bits t) t.bitmap.stream

-- The file table has grown in a draft by clusters of these bits, which are then left so; the bits of the clusters are the data of the other record. Its
-- bitmap of numbers stands in clusters then, and the volume's streams are those of before with the longer table.
pub record TableGrew (c : Content) (bits : List Bool) (s : VolumeStreams) (file bits_file : Record) (old new : List Touched) (x : TableGrown) (behind : List Bool) : Type 0 where
  pub t : Table
  pub b : Bitmap
  pub after : Table
  pub marked : Bitmap
  pub may : GrowsAsCounted bits file t
  pub marks : bitmap_in 6 data_type bits_file ≡ Some b
  pub grows : GrowsTable c 8 bits s.mirror t b old new after marked
  pub streams : x.streams ≡ record { table = after.extents; mirror = s.mirror; bitmap = s.bitmap }
  pub numbers : after.bitmap.stream ≡ Placed x.numbers
  pub left : behind ≡ behind_table 8 bits t

-- This table is put so into a draft by clusters of these bits, with this bitmap of the clusters.
pub record PutsFirst (c : Content) (bits : List Bool) (s : VolumeStreams) (t : Table) (b : Bitmap) (old new : List Touched) (x : TableGrown) (behind : List Bool) : Type 0 where
  pub after : Table
  pub marked : Bitmap
  pub grows : GrowsTable c 8 bits s.mirror t b old new after marked
  pub space : space_of 8 bits t ≡ Ok tt
  pub room : fits_room (grown_record 8 bits t) ≡ Ok tt
  pub streams : x.streams ≡ record { table = after.extents; mirror = s.mirror; bitmap = s.bitmap }
  pub numbers : after.bitmap.stream ≡ Placed x.numbers
  pub left : behind ≡ behind_table 8 bits t
