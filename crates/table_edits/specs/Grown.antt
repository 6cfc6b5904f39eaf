-- A file table that a draft has let grow is an edit of a plan.
use Rattle.std.specs.Prelude.{◌≡◌, ⊤, ◌+◌, ◌*◌, ◌%◌, ◌<◌, ◌≤◌, ℕ, false, Bool, length, List, [], Ok, Some}
use Rattle.disk_model.specs.Content.{Content, HasSizes}
use Rattle.record_model.specs.declared.runs.Run.{Run}
use Rattle.record_model.specs.Constants.{bitmap_type}
use Rattle.bit_set.specs.Bits.{bit}
use Rattle.space_model.specs.Choosing.{chosen}
use Rattle.state_model.specs.declared.geometry.Geometry.{Geometry}
use Rattle.state_model.specs.declared.stream.Extents.{Extents}
use Rattle.state_model.specs.declared.stream.Stream.{Stream}
use Rattle.state_model.specs.declared.stream.Stream.TheVariants.{Held, Placed}
use Rattle.state_model.specs.Loads.{extents_or, most_records, record_count}
use Rattle.state_model.specs.Streams.{stream_of}
use Rattle.volume_model.specs.Volumes.{Volume, cluster_bits, file_in, table_file}
use Rattle.stream_laws.specs.Sharing.{stream_at}
use Rattle.stream_runs.specs.Runs.{last_cluster}
use Rattle.plan_bodies.specs.Bodies.{NewBody}
use Rattle.plan_owners.specs.States.{Stands}
use Rattle.plan_draft.specs.declared.touched.Touched.{Touched}
use Rattle.plan_draft.specs.Drafts.{drafted}
use Rattle.draft_bits.specs.Effects.{IsKept}
use Rattle.draft_growth.specs.draft_numbers.Numbers.{new_sequence}
use Rattle.plan_edits.specs.draft_records.Records.{fits_room, written_record}
use Rattle.draft_growth.specs.draft_bitmaps.declared.bitmap.Bitmap.{Bitmap}
use Rattle.draft_growth.specs.declared.table.Table.{Table}
use Rattle.draft_growth.specs.Growing.{grown_record, GrowsTable, IsTable, numbers_more, space_of, table_clusters, table_records}
use Rattle.plan_edits.specs.Edits.{HasBitmap, mirror_key}
use Rattle.plan_edits.specs.Moves.{EditsDraft}
use Rattle.plan_table.specs.Growing.{GrowsVolumeTable, longer_table}

-- the clusters that the records take of these bits, and those that their bitmap takes then
abbrev pub table_runs : List Bool → Table → List Run
table_runs bits t = chosen bits (last_cluster t.extents.runs) table_clusters

abbrev pub numbers_runs : ℕ → List Bool → Table → List Run
numbers_runs per bits t = numbers_more per bits t

-- A file table grows in a draft, in a volume of which the table, the bitmap of clusters and the mirror are these. What is free is clear in
-- the volume, and is enough; the table has whole records, and not too many then; and record 0 has room.
pub record GrowsOfVolume (c : Content) (v : Volume) (bits : List Bool) (bitmap mirror : Extents) (t : Table) (b : Bitmap) (old new : List Touched) (after : Table) (clusters : Bitmap) : Type 0 where
  pub sized : HasSizes c
  pub kept : IsKept old
  pub count : length bits ≡ v.clusters
  pub free : (x : ℕ) → bit bits x ≡ false → bit (cluster_bits (drafted old c) v) x ≡ false
  pub space : space_of v.per bits t ≡ Ok tt
  pub table : t.extents ≡ v.table
  pub file : file_in v table_file ≡ Some t.bitmap.file
  pub kind : t.bitmap.kind ≡ bitmap_type
  pub stream : stream_of bitmap_type [] t.bitmap.file.attrs ≡ Some t.bitmap.stream
  pub stands : IsTable (length bits) t
  pub whole : v.table.real % 1024 ≡ 0
  pub few : record_count v.table + table_records ≤ most_records
  pub marks : HasBitmap v bitmap
  pub marks_are : b.stream ≡ Placed bitmap
  pub mirror_is : extents_or (stream_at v mirror_key) ≡ mirror
  pub grows : GrowsTable c v.per bits mirror t b old new after clusters
  pub room : fits_room (grown_record v.per bits t) ≡ Ok tt

-- In a state that the draft before stands for, what is put is the edit that leads to a state with the longer table.
abbrev pub GrownIsEdit : Type 0
GrownIsEdit = (c : Content) (g : Geometry) (clusters : ℕ) (v : Volume) (bits : List Bool) (bitmap mirror : Extents) (t : Table) (b : Bitmap) (old new : List Touched) (after : Table) (marked : Bitmap) → g.per_cluster ≡ 8 → Stands (drafted old c) g clusters v
    → GrowsOfVolume c v bits bitmap mirror t b old new after marked
    → (bodies : List NewBody) × (EditsDraft c old new bodies × GrowsVolumeTable (drafted old c) v t.bitmap.file (table_runs bits t) t.bitmap.stream (numbers_runs v.per bits t) after.bitmap.stream (written_record after.bitmap.file) bodies)

-- What is touched is in order then, and each of its bodies is whole.
abbrev pub GrownIsKept : Type 0
GrownIsKept = (c : Content) (g : Geometry) (clusters : ℕ) (v : Volume) (bits : List Bool) (bitmap mirror : Extents) (t : Table) (b : Bitmap) (old new : List Touched) (after : Table) (marked : Bitmap) → g.per_cluster ≡ 8 → Stands (drafted old c) g clusters v
    → GrowsOfVolume c v bits bitmap mirror t b old new after marked → IsKept new

-- each of so many bits lies below the initialised size, where they stand in clusters
abbrev pub AreBegun : ℕ → Stream → Type 0
AreBegun count (Held value) = ⊤
AreBegun count (Placed e) = count ≤ 8 * e.initialised

-- So do the bits of all numbers, the new ones too.
abbrev pub NumbersAreBegun : Type 0
NumbersAreBegun = (c : Content) (g : Geometry) (clusters : ℕ) (v : Volume) (bits : List Bool) (bitmap mirror : Extents) (t : Table) (b : Bitmap) (old new : List Touched) (after : Table) (marked : Bitmap) → g.per_cluster ≡ 8 → Stands (drafted old c) g clusters v
    → GrowsOfVolume c v bits bitmap mirror t b old new after marked → AreBegun (record_count v.table + table_records) after.bitmap.stream

-- The records lie in the longer table of that state.
abbrev pub LongerTable : Type 0
LongerTable = (c : Content) (v : Volume) (bits : List Bool) (bitmap mirror : Extents) (t : Table) (b : Bitmap) (old new : List Touched) (after : Table) (marked : Bitmap) → GrowsOfVolume c v bits bitmap mirror t b old new after marked → after.extents ≡ longer_table v.per (table_runs bits t) v.table

-- Each new number is taken with the sequence 1.
abbrev pub NewSequences : Type 0
NewSequences = (c : Content) (g : Geometry) (clusters : ℕ) (v : Volume) (bits : List Bool) (bitmap mirror : Extents) (t : Table) (b : Bitmap) (old new : List Touched) (after : Table) (marked : Bitmap) (n : ℕ) → g.per_cluster ≡ 8 → Stands (drafted old c) g clusters v
    → GrowsOfVolume c v bits bitmap mirror t b old new after marked → record_count v.table ≤ n → n < record_count v.table + table_records → new_sequence (drafted new c) v.per after.extents n ≡ 1
