-- What writes leave that go to the blocks of a few streams and of a few file records, and to free clusters.
use Rattle.std.specs.Prelude.{◌≡◌, ◌≢◌, ◌⊎◌, ℕ, ◌<◌, ◌≤◌, ◌==◌, Bool, true, false, List, [], Some}
use Rattle.std.specs.List.{AllByRecursion}
use Rattle.volume_state.specs.disk_model.declared.block.BlockKind.{BlockKind}
use Rattle.volume_state.specs.disk_model.declared.block.BlockKind.TheVariants.{FileRec}
use Rattle.volume_state.specs.disk_model.Content.{Content, HasSizes}
use Rattle.volume_state.specs.disk_model.Writes.{Write, overlay}
use Rattle.volume_state.specs.record_model.Records.{Record}
use Rattle.volume_state.specs.record_model.Constants.{attribute_list, data_type, names_index, index_allocation, bitmap_type}
use Rattle.volume_state.specs.bit_set.Bits.{bit}
use Rattle.volume_state.specs.state_model.declared.geometry.Geometry.{Geometry}
use Rattle.volume_state.specs.state_model.declared.stream.Extents.{Extents}
use Rattle.volume_state.specs.state_model.Files.{is_directory_record}
use Rattle.volume_state.specs.state_model.Loads.{Free, record_count, table_slot, list_stream, entries_of}
use Rattle.volume_state.specs.state_model.Streams.{block_at}
use Rattle.volume_state.specs.volume_model.Volumes.{Volume, count_of, file_in, table_file, upcase_file, record_bits, upper_of}
use Rattle.volume_state.specs.volume_model.Indexes.{void_block}
use Rattle.volume_state.specs.volume_model.Nodes.{kind_in, shows_data}
use Rattle.volume_state.specs.volume_model.Owners.{volume_runs}
use Rattle.volume_state.specs.Journals.{entries_name}
use Rattle.stream_laws.specs.Changes.{AreElsewhere, LeavesBytes, LeavesRecord, LeavesIndex}
use Rattle.stream_laws.specs.Leaving.{LiesFree}
use Rattle.stream_laws.specs.Places.{AreOnce}
use Rattle.stream_laws.specs.Rewrites.{StandsAlone, names_one, TableGoesOn, RewritesRecords}
use Rattle.stream_laws.specs.Volumes.{base_record}
use Rattle.stream_laws.specs.Sharing.{StreamKey, stream_at, runs_in}
use Rattle.stream_laws.specs.Tables.{table_key, BeginsAtBoot}
use Rattle.tree_laws.specs.Contents.{SameUpper, SameShownAt, SameEntries, AgreeBut}
use Rattle.tree_laws.specs.Changed.{AgreesElsewhere}
use Rattle.tree_laws.specs.Parts.{journal_number}

-- the write is to a block, of whatever kind, of one of these streams
pub record IsInStream (streams : StreamKey → Bool) (v : Volume) (w : Write) : Type 0 where
  pub stream : StreamKey
  pub chosen : streams stream ≡ true
  pub kind : BlockKind
  pub number : ℕ
  pub lies : block_at v.per (runs_in (stream_at v stream)) kind number ≡ Some w.block

-- the write is to the block of one of these file records
pub record IsInRecord (records : ℕ → Bool) (v : Volume) (w : Write) : Type 0 where
  pub number : ℕ
  pub chosen : records number ≡ true
  pub lies : block_at v.per v.table.runs FileRec number ≡ Some w.block

-- Each write is to a block of one of these streams, none of which is the file table, to one of these records, or to clusters that
-- no stream has. No cluster lies twice in the volume, which begins where the boot sector says.
pub record WritesWithin (streams : StreamKey → Bool) (records : ℕ → Bool) (c : Content) (g : Geometry) (clusters : ℕ) (v : Volume) (writes : List Write) : Type 0 where
  pub begins : BeginsAtBoot c g clusters v
  pub some : 0 < v.per
  pub once : AreOnce (volume_runs v.files)
  pub no_table : streams table_key ≡ false
  pub each : AllByRecursion (λ w. IsInStream streams v w ⊎ IsInRecord records v w ⊎ LiesFree v w.block) writes

-- The streams have none of these: the data of $UpCase and the records of the change journal; and of each file that isn't touched
-- the index, and the data that its node shows. No record is written to that isn't in use, but for those that are touched; no
-- write is past the end of every disk.
pub record SparesOthers (touched : ℕ → Bool) (streams : StreamKey → Bool) (records : ℕ → Bool) (c : Content) (v : Volume) (writes : List Write) : Type 0 where
  pub sized : HasSizes c
  pub void : AreElsewhere writes void_block
  pub upcase : streams (record { file = upcase_file; kind = data_type; name = [] }) ≡ false
  pub free : (m : ℕ) → m < count_of v → touched m ≡ false → bit (record_bits c v) m ≡ false → records m ≡ false
  pub indexes : (m : ℕ) (r : Record) → touched m ≡ false → file_in v m ≡ Some r → is_directory_record r ≡ true → streams (record { file = m; kind = index_allocation; name = names_index }) ≡ false
  pub shown : (m : ℕ) (r : Record) → touched m ≡ false → file_in v m ≡ Some r → shows_data (kind_in v m r) ≡ true → streams (record { file = m; kind = data_type; name = [] }) ≡ false

-- none of the streams is an attribute list
abbrev pub SparesLists : (StreamKey → Bool) → Type 0
SparesLists streams = (n : ℕ) (name : List ℕ) → streams (record { file = n; kind = attribute_list; name = name }) ≡ false

-- Then the other streams, indexes and records are left, and the content after the writes agrees with the one before; by itself on the
-- table of upper-case units, on what other nodes show, and on the change journal. All attribute lists are left where the streams have none, and
-- so the writes change these records alone, in a table that may grow.
pub record PlannedWrites : Type 0 where
  pub bytes : (streams : StreamKey → Bool) (records : ℕ → Bool) (c : Content) (g : Geometry) (clusters : ℕ) (v : Volume) (writes : List Write) (s : StreamKey) → WritesWithin streams records c g clusters v writes → streams s ≡ false → table_key ≢ s → LeavesBytes writes v.per (stream_at v s)
  pub index : (streams : StreamKey → Bool) (records : ℕ → Bool) (c : Content) (g : Geometry) (clusters : ℕ) (v : Volume) (writes : List Write) (s : StreamKey) → WritesWithin streams records c g clusters v writes → streams s ≡ false → table_key ≢ s
      → AreElsewhere writes void_block → LeavesIndex writes v.per (stream_at v s)
  pub record_of : (streams : StreamKey → Bool) (records : ℕ → Bool) (c : Content) (g : Geometry) (clusters : ℕ) (v : Volume) (writes : List Write) (n : ℕ) → WritesWithin streams records c g clusters v writes → records n ≡ false → LeavesRecord writes v.per v.table n
  pub agree : (n : ℕ) (streams : StreamKey → Bool) (records : ℕ → Bool) (c : Content) (g : Geometry) (clusters : ℕ) (v : Volume) (writes : List Write) → WritesWithin streams records c g clusters v writes → SparesOthers (λ m. m == n) streams records c v writes
      → bit (record_bits c v) n ≡ true → streams (record { file = table_file; kind = bitmap_type; name = [] }) ≡ false
      → ((m : ℕ) → journal_number (upper_of c v) v ≡ Some m → streams (record { file = m; kind = data_type; name = entries_name }) ≡ false) → AgreeBut n c (overlay c writes) v
  pub agrees : (touched : ℕ → Bool) (streams : StreamKey → Bool) (records : ℕ → Bool) (c : Content) (g : Geometry) (clusters : ℕ) (v w : Volume) (writes : List Write) → WritesWithin streams records c g clusters v writes → SparesOthers touched streams records c v writes
      → ((m : ℕ) → m < count_of v → touched m ≡ false → bit (record_bits (overlay c writes) w) m ≡ bit (record_bits c v) m) → AgreesElsewhere touched c (overlay c writes) v w
  pub upper : (touched : ℕ → Bool) (streams : StreamKey → Bool) (records : ℕ → Bool) (c : Content) (g : Geometry) (clusters : ℕ) (v : Volume) (writes : List Write) → WritesWithin streams records c g clusters v writes → SparesOthers touched streams records c v writes → SameUpper c (overlay c writes) v
  pub shown : (touched : ℕ → Bool) (streams : StreamKey → Bool) (records : ℕ → Bool) (c : Content) (g : Geometry) (clusters : ℕ) (v : Volume) (writes : List Write) (m : ℕ) → WritesWithin streams records c g clusters v writes → SparesOthers touched streams records c v writes → touched m ≡ false
      → SameShownAt c (overlay c writes) v m
  pub entries : (streams : StreamKey → Bool) (records : ℕ → Bool) (c : Content) (g : Geometry) (clusters : ℕ) (v : Volume) (writes : List Write) → WritesWithin streams records c g clusters v writes
      → ((m : ℕ) → journal_number (upper_of c v) v ≡ Some m → streams (record { file = m; kind = data_type; name = entries_name }) ≡ false) → SameEntries c (overlay c writes) (upper_of c v) v
  pub lists : (streams : StreamKey → Bool) (records : ℕ → Bool) (c : Content) (g : Geometry) (clusters : ℕ) (v : Volume) (writes : List Write) (m : ℕ) (r : Record) → WritesWithin streams records c g clusters v writes → SparesLists streams → base_record c v.per v.table m ≡ Some r
      → LeavesBytes writes v.per (list_stream r)
  pub rewrites : (streams : StreamKey → Bool) (records : ℕ → Bool) (c : Content) (g : Geometry) (clusters : ℕ) (v : Volume) (f : Extents) (writes : List Write) → WritesWithin streams records c g clusters v writes → SparesLists streams → TableGoesOn v.per v.table f
      → ((m : ℕ) (r : Record) → records m ≡ false → base_record c v.per v.table m ≡ Some r → names_one records (entries_of c v.per r).entries ≡ false)
      → ((m : ℕ) → m < record_count v.table → records m ≡ true → StandsAlone v.per (table_slot (overlay c writes) v.per f m))
      → ((m : ℕ) → record_count v.table ≤ m → m < record_count f → table_slot (overlay c writes) v.per f m ≡ Free) → RewritesRecords c writes v.per v.table f records
