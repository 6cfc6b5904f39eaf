-- What a draft puts of a file that an operation writes or cuts, one body after the other.
use Rattle.std.specs.Prelude.{◌≡◌, ℕ, ◌+◌, ◌/◌, Bool, true, false, List, [], Ok, Some}
use Rattle.disk_model.specs.Content.{Content}
use Rattle.record_times.specs.record_model.Constants.{data_type}
use Rattle.record_times.specs.record_model.Records.{Record, record_spelling}
use Rattle.record_times.specs.record_writer.NormalLaws.{FitsByRoom}
use Rattle.file_tree.specs.declared.node.Node.{Node}
use Rattle.record_times.specs.state_model.declared.stream.Extents.{Extents}
use Rattle.record_times.specs.state_model.declared.stream.Stream.TheVariants.{Held, Placed}
use Rattle.record_times.specs.tree_model.declared.script.Op.{Op}
use Rattle.record_times.specs.tree_model.Needs.{size_after, shrinks}
use Rattle.record_times.specs.tree_model.Effects.{valid_after, bytes_after}
use Rattle.record_times.specs.plan_draft.declared.touched.Touched.{Touched}
use Rattle.record_times.specs.draft_streams.Parts.{touch_bytes}
use Rattle.record_times.specs.draft_records.Records.{written_record, fits_room, touch_record}
use Rattle.record_times.specs.record_values.Values.{valued_record}
use Rattle.record_times.specs.Times.{timed_record}
use Rattle.record_times.specs.resized_streams.declared.resized.Resized.{Resized}
use Rattle.record_times.specs.resized_streams.Resizing.{IsSized}
use Rattle.record_times.specs.draft_resized.Resized.{PutsResized}
use Rattle.record_times.specs.draft_resized.Moved.{PutsMoved}
use Rattle.data_plan.specs.declared.change.DataChange.{DataChange}
use Rattle.data_plan.specs.declared.change.DataChange.TheVariants as change
use Rattle.data_plan.specs.Changes.{data_in}
use Rattle.record_times.specs.plan_changes.Bytes.{place_of, put_of}
use Rattle.file_puts.specs.declared.streams.VolumeStreams.{VolumeStreams}

-- a record that has room is put
pub record PutsFileRecord (c : Content) (s : VolumeStreams) (n : ℕ) (p : Record) (old new : List Touched) : Type 0 where
  pub fits : FitsByRoom p
  pub room : fits_room p ≡ Ok tt
  pub put : new ≡ touch_record c 8 s.table s.mirror n (record_spelling (written_record p)) old

-- the record of a file of which a stream took clusters or gave some back, and the bits of these
pub record PutsFileRuns (c : Content) (s : VolumeStreams) (n : ℕ) (z : Resized) (old new : List Touched) : Type 0 where
  pub fits : FitsByRoom z.file
  pub room : fits_room z.file ≡ Ok tt
  pub put : PutsResized c 8 s.bitmap s.table s.mirror n z old new

-- the same of a value that left its record, and its bytes
pub record PutsFileValue (c : Content) (s : VolumeStreams) (n : ℕ) (z : Resized) (value : List ℕ) (old new : List Touched) : Type 0 where
  pub fits : FitsByRoom z.file
  pub room : fits_room z.file ≡ Ok tt
  pub put : PutsMoved c 8 s.bitmap s.table s.mirror n z value old new

-- the record that stands then, with its times
abbrev pub PutsTimes : Content → VolumeStreams → ℕ → ℕ → Record → List Touched → List Touched → Type 0
PutsTimes c s n stamp r old new = PutsFileRecord c s n (timed_record stamp r) old new

-- ---- data in its record

-- the node with these bytes
abbrev pub with_bytes : List ℕ → Node → Node
with_bytes bytes a = record {
  number = a.number;
  seq = a.seq;
  kind = a.kind;
  why = a.why;
  held = a.held;
  size = a.size;
  valid = a.valid;
  clusters = a.clusters;
  bytes = bytes;
  flags = a.flags;
  created = a.created;
  modified = a.modified;
  changed = a.changed;
  read_at = a.read_at;
}

-- The value of the data is written anew, with the bytes after the operation, and the times with it.
pub record PutsValue (c : Content) (s : VolumeStreams) (n : ℕ) (op : Op) (a : Node) (stamp : ℕ) (r : Record) (old new : List Touched) : Type 0 where
  pub value : List ℕ
  pub held : data_in r ≡ Some (Held value)
  pub put : PutsTimes c s n stamp (valued_record data_type [] (bytes_after op (with_bytes value a)) r) old new

-- ---- data in clusters

-- the first sector wholly past what is initialised
abbrev pub first_fresh : Extents → ℕ
first_fresh e = (e.initialised + 511) / 512

-- The record, whose data has these extents, gets the sizes after the operation; the bytes that the operation brings are put into its
-- sectors, and the times behind them.
pub record PutsSizes (c : Content) (s : VolumeStreams) (n : ℕ) (op : Op) (a : Node) (stamp : ℕ) (e : Extents) (r : Record) (old new : List Touched) : Type 0 where
  pub z : Resized
  pub sized : IsSized 8 data_type [] e r (size_after op a) (valid_after op a) z
  pub mid : List Touched
  pub far : List Touched
  pub file : PutsFileRecord c s n z.file old mid
  pub bytes : far ≡ touch_bytes c 8 z.extents.runs (first_fresh e) (place_of op a) (put_of op a) mid
  pub times : PutsTimes c s n stamp (written_record z.file) far new

-- The value leaves its record for clusters, where the bytes after the operation are put in its place, and the times behind them.
pub record PutsLeaving (c : Content) (s : VolumeStreams) (n : ℕ) (op : Op) (a : Node) (stamp : ℕ) (r : Record) (z : Resized) (old new : List Touched) : Type 0 where
  pub value : List ℕ
  pub held : data_in r ≡ Some (Held value)
  pub mid : List Touched
  pub moved : PutsFileValue c s n z (bytes_after op (with_bytes value a)) old mid
  pub times : PutsTimes c s n stamp (written_record z.file) mid new

-- The data takes its clusters, and gets its sizes and bytes then.
pub record PutsGrowing (c : Content) (s : VolumeStreams) (n : ℕ) (op : Op) (a : Node) (stamp : ℕ) (z : Resized) (old new : List Touched) : Type 0 where
  pub mid : List Touched
  pub grown : PutsFileRuns c s n z old mid
  pub sizes : PutsSizes c s n op a stamp z.extents (written_record z.file) mid new

-- The data is cut off, and gives clusters back.
pub record PutsCut (c : Content) (s : VolumeStreams) (n stamp : ℕ) (z : Resized) (old new : List Touched) : Type 0 where
  pub mid : List Touched
  pub cut : PutsFileRuns c s n z old mid
  pub times : PutsTimes c s n stamp (written_record z.file) mid new

-- The data is shorter in its clusters of before.
pub record PutsShorter (c : Content) (s : VolumeStreams) (n stamp : ℕ) (z : Resized) (old new : List Touched) : Type 0 where
  pub mid : List Touched
  pub file : PutsFileRecord c s n z.file old mid
  pub times : PutsTimes c s n stamp (written_record z.file) mid new

-- the data has these extents, and is longer in its clusters of before
pub record PutsLonger (c : Content) (s : VolumeStreams) (n : ℕ) (op : Op) (a : Node) (stamp : ℕ) (r : Record) (old new : List Touched) : Type 0 where
  pub e : Extents
  pub placed : data_in r ≡ Some (Placed e)
  pub sizes : PutsSizes c s n op a stamp e r old new

abbrev pub PutsSized : Bool → Content → VolumeStreams → ℕ → Op → Node → ℕ → Record → Resized → List Touched → List Touched → Type 0
PutsSized true c s n op a stamp r z old new = PutsShorter c s n stamp z old new
PutsSized false c s n op a stamp r z old new = PutsLonger c s n op a stamp r old new

-- ---- all of them

-- What is put of a file with this record, by what comes of its data.
abbrev pub PutsChange : Content → VolumeStreams → ℕ → Op → Node → ℕ → Record → DataChange → List Touched → List Touched → Type 0
PutsChange c s n op a stamp r (change.Stays size) old new = PutsValue c s n op a stamp r old new
PutsChange c s n op a stamp r (change.Leaves z) old new = PutsLeaving c s n op a stamp r z old new
PutsChange c s n op a stamp r (change.Grows z) old new = PutsGrowing c s n op a stamp z old new
PutsChange c s n op a stamp r (change.Cut z) old new = PutsCut c s n stamp z old new
PutsChange c s n op a stamp r (change.Sized z) old new = PutsSized (shrinks op a) c s n op a stamp r z old new
