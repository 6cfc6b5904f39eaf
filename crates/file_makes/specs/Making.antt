-- What a draft puts of a new file: the root and the nodes of its directory's index, its record, and the bit of its number.
use Rattle.std.specs.Prelude.{◌≡◌, ⊤, ℕ, ◌*◌, ◌^◌, ◌<◌, ◌≤◌, true, false, if◌then◌else◌, List, [], ◌∷◌, length, All, Result, Ok, Err}
use Rattle.disk_model.specs.declared.block.BlockKind.TheVariants.{FileRec}
use Rattle.disk_model.specs.declared.block.Change.{Change}
use Rattle.disk_model.specs.Content.{Content, is_signed}
use Rattle.disk_model.specs.Numbers.{field}
use Rattle.disk_model.specs.Sectors.{sectors}
use Rattle.record_model.specs.Constants.{index_root, names_index}
use Rattle.record_model.specs.Records.{Record}
use Rattle.record_model.specs.declared.entry.Entry.{Entry}
use Rattle.state_model.specs.declared.stream.Extents.{Extents}
use Rattle.index_model.specs.Indexes.{Place}
use Rattle.index_node.specs.Roots.{root_spelling}
use Rattle.file_puts.specs.index_change.declared.nodes_plan.NodesPlan.{NodesPlan}
use Rattle.file_puts.specs.index_change.declared.plan.DirPlan.{DirPlan}
use Rattle.file_puts.specs.index_change.NodePlans.{LaysOut}
use Rattle.file_puts.specs.index_change.Plans.{clusters_of}
use Rattle.plan_draft.specs.declared.touched.Touched.{Touched}
use Rattle.plan_draft.specs.Touching.{touch}
use Rattle.plan_draft.specs.Drafts.{drafted}
use Rattle.file_puts.specs.draft_bits.Filling.{PutsBits}
use Rattle.draft_numbers.specs.Numbers.{number_bytes}
use Rattle.file_puts.specs.draft_records.Records.{written_bytes}
use Rattle.file_puts.specs.draft_records.declared.fault.DraftFault.{DraftFault}
use Rattle.file_puts.specs.draft_records.declared.fault.DraftFault.TheVariants.{Full, Fault, Memory}
use Rattle.file_puts.specs.record_streams.Fitting.{FitsButRoom}
use Rattle.file_puts.specs.record_values.Values.{valued_record}
use Rattle.new_files.specs.NewFiles.{new_record}
use Rattle.file_puts.specs.declared.streams.VolumeStreams.{VolumeStreams}
use Rattle.file_puts.specs.Puts.{PutsFileRecord}
use Rattle.file_makes.specs.declared.newfile.NewFile.{NewFile}

-- ---- the records

-- the LSN of a record with these bytes, where they begin FILE
unfoldable pub kept_lsn : List ℕ → ℕ
kept_lsn bytes = if is_signed FileRec bytes then field 8 8 bytes else 0

-- the LSN that the block of the new file's record has in this content
abbrev pub made_lsn : Content → Extents → NewFile → ℕ
made_lsn c table m = kept_lsn (number_bytes c 8 table m.file.number)

-- the record of the new file, with that LSN
abbrev pub made_record : Content → Extents → NewFile → Record
made_record c table m = new_record (made_lsn c table m) m.file m.parent m.name m.stamp

-- the record of its directory with this value of the root of its index
abbrev pub rooted_record : List ℕ → Record → Record
rooted_record root r = valued_record index_root names_index root r

-- ---- the nodes

-- nodes put into their blocks, one after the other
abbrev pub touch_nodes : Content → List Change → List Touched → List Touched
touch_nodes c [] touched = touched
touch_nodes c (x ∷ changes) touched = touch_nodes c changes (touch x.block false x.new (c x.block) touched)

-- each change is of the whole body of its block
abbrev pub IsWhole : Change → Type 0
IsWhole x = length x.new ≡ 512 * sectors x.block.kind

abbrev pub AreWhole : List Change → Type 0
AreWhole changes = All IsWhole changes

-- ---- all that is put

-- the nodes, a record with this number behind them, and the bit of the number
pub record PutsBehind (c : Content) (s : VolumeStreams) (numbers : Extents) (n : ℕ) (f : Record) (changes : List Change) (old new : List Touched) : Type 0 where
  pub made : List Touched
  pub file : PutsFileRecord c s n f (touch_nodes c changes old) made
  pub bit : PutsBits c 8 numbers n 1 true made new

-- The directory's record, with the root that these nodes have, laid out at this place of an index whose root had this value; the nodes; the
-- new file's record, with an LSN that has room there; and the bit of its number.
pub record PutsMade (c : Content) (s : VolumeStreams) (numbers : Extents) (m : NewFile) (r : Record) (p : Place) (value : List ℕ) (nodes : NodesPlan) (old new : List Touched) : Type 0 where
  pub plan : DirPlan
  pub laid : LaysOut p (clusters_of value) nodes plan
  pub lsn : made_lsn (drafted old c) s.table m < 2 ^ 64
  pub rooted : List Touched
  pub root : PutsFileRecord c s m.parent.number (rooted_record plan.root r) old rooted
  pub behind : PutsBehind c s numbers m.file.number (made_record (drafted old c) s.table m) plan.changes.items rooted new

-- ---- what it is asked for, and refused by

-- a directory's record that has room as it is written
pub record HasRoom (r : Record) : Type 0 where
  pub fits : FitsButRoom r
  pub room : written_bytes r ≤ 1024

-- the bytes that the directory's record uses with the root that these entries make of its value
abbrev pub rooted_bytes : List ℕ → List Entry → Record → ℕ
rooted_bytes value root r = written_bytes (rooted_record (root_spelling (clusters_of value) root) r)

-- where it is refused, these are the bytes that are used, above 1,024; where it is done they are at most as many
abbrev pub IsFullBy : ℕ → Result (Unit {0}) DraftFault → Type 0
IsFullBy used (Ok done) = used ≤ 1024
IsFullBy used (Err (Full bytes)) = (bytes ≡ used) × (1024 < used)
IsFullBy used (Err Fault) = ⊤
IsFullBy used (Err Memory) = ⊤
