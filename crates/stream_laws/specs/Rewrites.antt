-- The volume after some records of its file table are rewritten.
use Rattle.std.specs.Prelude.{◌≡◌, ℕ, ◌-◌, ◌*◌, ◌<◌, ◌≤◌, Bool, true, false, ◌==◌, nat_le, if◌then◌else◌, List, ◌++◌, length, map, replicate, slice_set, Option, Some, None, Ok, ⊤}
use Rattle.std.specs.List.{list_any, range_with_len, AllByRecursion}
use Rattle.volume_model.specs.disk_model.declared.block.Block.{Block}
use Rattle.volume_model.specs.disk_model.declared.block.Body.{Body}
use Rattle.volume_model.specs.disk_model.declared.block.BlockKind.TheVariants.{FileRec}
use Rattle.volume_model.specs.disk_model.Bytes.{zeros}
use Rattle.volume_model.specs.disk_model.Content.{Content, HasSizes, is_signed}
use Rattle.volume_model.specs.disk_model.Writes.{Write, overlay}
use Rattle.volume_model.specs.record_model.declared.list_entry.ListEntry.{ListEntry}
use Rattle.volume_model.specs.record_model.Records.{Record}
use Rattle.volume_model.specs.record_model.Constants.{attribute_list}
use Rattle.volume_model.specs.state_model.declared.geometry.Geometry.{Geometry}
use Rattle.volume_model.specs.state_model.declared.stream.Extents.{Extents}
use Rattle.volume_model.specs.state_model.Files.{only_base, has_type}
use Rattle.volume_model.specs.state_model.Streams.{block_at, has_cut_block}
use Rattle.volume_model.specs.state_model.Loads.{Slot, Torn, Free, Broken, Used, slot_of, boot_block, record_count, most_records, table_extents, table_of, table_slot, used_record, table_in, list_stream, entries_of, cuts_index}
use Rattle.volume_model.specs.Volumes.{Volume, volume_of, count_of, record_bytes}
use Rattle.stream_laws.specs.Frames.{SameBytesInSome, SameRecordIn}
use Rattle.stream_laws.specs.Changes.{LeavesBytes, LeavesRecord}
use Rattle.stream_laws.specs.Replacing.{FileEdit, with_edits, AreEdits}
use Rattle.stream_laws.specs.Volumes.{base_record}

-- a record that isn't in use; or one in use that breaks no rule by itself, has no attribute list and no index block in two runs
abbrev pub StandsAlone : ℕ → Slot → Type 0
StandsAlone per Torn = ⊥
StandsAlone per Free = ⊤
StandsAlone per (Broken rule) = ⊥
StandsAlone per (Used r) = (list_stream r ≡ None) × (cuts_index per (Some r) ≡ false)

-- an attribute list names one of these records
abbrev pub names_one : (ℕ → Bool) → List ListEntry → Bool
names_one touched entries = list_any (λ (e : ListEntry). touched e.holder.number) entries

-- New extents of a file table go on from the old ones: they have no fewer records, of which none lies in two runs. The old records lie
-- where they lay, and are past the initialised size or not as before.
pub record TableGoesOn (per : ℕ) (e f : Extents) : Type 0 where
  pub count : record_count e ≤ record_count f
  pub places : (m : ℕ) → m < record_count e → block_at per f.runs FileRec m ≡ block_at per e.runs FileRec m
  pub begun : (m : ℕ) → m < record_count e → nat_le f.initialised (1024 * m) ≡ nat_le e.initialised (1024 * m)
  pub uncut : has_cut_block per FileRec (record_count f) f.runs ≡ false

-- The contents differ in these records alone, and the table of the second may have more, which aren't in use. The other records are the
-- same, with their attribute lists, which name none of these; and these stand alone in the second content.
pub record ChangesRecords (c d : Content) (per : ℕ) (e f : Extents) (touched : ℕ → Bool) : Type 0 where
  pub grows : TableGoesOn per e f
  pub others : (m : ℕ) → m < record_count e → touched m ≡ false → SameRecordIn c d per e m
  pub lists : (m : ℕ) (r : Record) → touched m ≡ false → base_record c per e m ≡ Some r → SameBytesInSome c d per (list_stream r)
  pub unnamed : (m : ℕ) (r : Record) → touched m ≡ false → base_record c per e m ≡ Some r → names_one touched (entries_of c per r).entries ≡ false
  pub alone : (m : ℕ) → m < record_count e → touched m ≡ true → StandsAlone per (table_slot d per f m)
  pub fresh : (m : ℕ) → record_count e ≤ m → m < record_count f → table_slot d per f m ≡ Free

-- Writes that change these records alone: none is to the block of another record, nor to one that holds bytes of its attribute
-- list, which names none of these. These stand alone after the writes, and more records aren't in use.
pub record RewritesRecords (c : Content) (writes : List Write) (per : ℕ) (e f : Extents) (touched : ℕ → Bool) : Type 0 where
  pub grows : TableGoesOn per e f
  pub others : (m : ℕ) → m < record_count e → touched m ≡ false → LeavesRecord writes per e m
  pub lists : (m : ℕ) (r : Record) → touched m ≡ false → base_record c per e m ≡ Some r → LeavesBytes writes per (list_stream r)
  pub unnamed : (m : ℕ) (r : Record) → touched m ≡ false → base_record c per e m ≡ Some r → names_one touched (entries_of c per r).entries ≡ false
  pub alone : (m : ℕ) → m < record_count e → touched m ≡ true → StandsAlone per (table_slot (overlay c writes) per f m)
  pub fresh : (m : ℕ) → record_count e ≤ m → m < record_count f → table_slot (overlay c writes) per f m ≡ Free

-- the volume with other files
abbrev pub with_files : Volume → List (Option Record) → Volume
with_files v files = record { per = v.per; clusters = v.clusters; mft = v.mft; table = v.table; files = files }

-- the volume with another file table
abbrev pub with_table : Volume → Extents → List (Option Record) → Volume
with_table v f files = record { per = v.per; clusters = v.clusters; mft = v.mft; table = f; files = files }

-- the file that a record of a volume's table is by itself: a base record in use
abbrev pub new_file : Content → Volume → ℕ → Option Record
new_file d v m = only_base (used_record (table_slot d v.per v.table m))

abbrev pub changed_file : Content → Volume → Extents → (ℕ → Bool) → ℕ → Option Record
changed_file d v f touched m = if touched m then new_file d (with_table v f v.files) m else table_in v.files m

-- the volume with these records as the content has them in the new extents of the table, and its other files
abbrev pub changed_volume : Content → Volume → Extents → (ℕ → Bool) → Volume
changed_volume d v f touched = with_table v f (map (changed_file d v f touched) (range_with_len 0 (record_count f)))

-- some edit is of the file with this number
abbrev pub is_edited : List FileEdit → ℕ → Bool
is_edited edits m = list_any (λ (e : FileEdit). e.number == m) edits

-- files, and none behind them up to this count
abbrev pub filled_up : ℕ → List (Option Record) → List (Option Record)
filled_up count files = files ++ replicate (count - length files) None

-- a body that isn't torn and doesn't begin FILE
pub record IsBlank (body : Body) : Type 0 where
  pub whole : body.torn ≡ false
  pub unsigned : is_signed FileRec body.bytes ≡ false

-- The extents of a table go on from themselves, so that records may be rewritten where the table stays; and wholly initialised ones go on
-- from wholly initialised ones of no greater size. A record that is blank, as one of zeros, isn't in use.
pub record TablesGoOn : Type 0 where
  pub itself : (c : Content) (g : Geometry) (clusters : ℕ) (v : Volume) → volume_of c g clusters ≡ Ok v → TableGoesOn v.per v.table v.table
  pub initialised : (per : ℕ) (e f : Extents) → e.initialised ≡ e.real → f.initialised ≡ f.real → e.real ≤ f.real → ((m : ℕ) → m < record_count e → block_at per f.runs FileRec m ≡ block_at per e.runs FileRec m)
      → has_cut_block per FileRec (record_count f) f.runs ≡ false → TableGoesOn per e f
  pub in_place : (c : Content) (writes : List Write) (g : Geometry) (clusters : ℕ) (v : Volume) (touched : ℕ → Bool) → volume_of c g clusters ≡ Ok v → ((m : ℕ) → m < record_count v.table → touched m ≡ false → LeavesRecord writes v.per v.table m)
      → ((m : ℕ) (r : Record) → touched m ≡ false → base_record c v.per v.table m ≡ Some r → LeavesBytes writes v.per (list_stream r) × (names_one touched (entries_of c v.per r).entries ≡ false))
      → ((m : ℕ) → m < record_count v.table → touched m ≡ true → StandsAlone v.per (table_slot (overlay c writes) v.per v.table m)) → RewritesRecords c writes v.per v.table v.table touched
  pub blank : (d : Content) (per : ℕ) (f : Extents) (m : ℕ) → ((b : Block) → block_at per f.runs FileRec m ≡ Some b → IsBlank (d b)) → table_slot d per f m ≡ Free
  pub blank_bytes : (d : Content) (v : Volume) (m : ℕ) → ((b : Block) → block_at v.per v.table.runs FileRec m ≡ Some b → IsBlank (d b)) → is_signed FileRec (record_bytes d v m) ≡ false
  pub zeros : (n : ℕ) → IsBlank (record { bytes = zeros n; torn = false })

-- Record 0 says at its place by the boot sector where the table lies, as before where its block stays. Then the volume has the new files in the
-- places of the old ones, and none at the numbers behind them. These are the old files with one replaced, or after edits; where the
-- table stays, with none behind them.
pub record VolumeRewritten : Type 0 where
  pub table : (d : Content) (g : Geometry) (r : Record) → slot_of (d (boot_block g 0)) ≡ Used r → has_type attribute_list r ≡ false → record_count (table_extents r) ≤ most_records → table_of d g ≡ Ok (table_extents r)
  pub same_table : (c d : Content) (g : Geometry) → d (boot_block g 0) ≡ c (boot_block g 0) → table_of d g ≡ table_of c g
  pub records : (c d : Content) (g : Geometry) (clusters : ℕ) (v : Volume) (f : Extents) (touched : ℕ → Bool) → volume_of c g clusters ≡ Ok v → table_of d g ≡ Ok f → ChangesRecords c d v.per v.table f touched → volume_of d g clusters ≡ Ok (changed_volume d v f touched)
  pub writes : (c : Content) (writes : List Write) (g : Geometry) (clusters : ℕ) (v : Volume) (f : Extents) (touched : ℕ → Bool) → HasSizes c → volume_of c g clusters ≡ Ok v → table_of (overlay c writes) g ≡ Ok f → RewritesRecords c writes v.per v.table f touched
      → volume_of (overlay c writes) g clusters ≡ Ok (changed_volume (overlay c writes) v f touched)
  pub one : (d : Content) (v : Volume) (f : Extents) (n : ℕ) → n < count_of v → count_of v ≤ record_count f → changed_volume d v f (λ m. m == n) ≡ with_table v f (filled_up (record_count f) (slice_set v.files n (new_file d (with_table v f v.files) n)))
  pub edits : (d : Content) (v : Volume) (f : Extents) (edits : List FileEdit) → AreEdits (count_of v) edits → count_of v ≤ record_count f → AllByRecursion (λ e. e.file ≡ new_file d (with_table v f v.files) e.number) edits
      → changed_volume d v f (is_edited edits) ≡ with_table v f (filled_up (record_count f) (with_edits edits v.files))
  pub count : (c : Content) (g : Geometry) (clusters : ℕ) (v : Volume) → volume_of c g clusters ≡ Ok v → count_of v ≡ record_count v.table
  pub in_place : (d : Content) (v : Volume) (edits : List FileEdit) → count_of v ≡ record_count v.table → AreEdits (count_of v) edits → AllByRecursion (λ e. e.file ≡ new_file d v e.number) edits
      → changed_volume d v v.table (is_edited edits) ≡ with_files v (with_edits edits v.files)
