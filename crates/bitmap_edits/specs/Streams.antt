-- A stream that takes clusters or gives some back, with their bits wherever these stand.
use Rattle.std.specs.Prelude.{◌≡◌, ◌≢◌, ℕ, ◌+◌, ◌≤◌, true, false, List, length, Ok, Option, Some, take}
use Rattle.disk_model.specs.declared.block.BlockKind.{BlockKind}
use Rattle.disk_model.specs.declared.block.BlockKind.TheVariants.{Plain}
use Rattle.disk_model.specs.Content.{Content, HasSizes}
use Rattle.record_model.specs.declared.runs.Run.{Run}
use Rattle.record_model.specs.Constants.{index_allocation}
use Rattle.record_model.specs.Pairs.{cluster_limit, HasSpelling}
use Rattle.record_model.specs.Records.{Record, record_spelling}
use Rattle.record_writer.specs.NormalLaws.{FitsByRoom}
use Rattle.bit_set.specs.Bits.{bit}
use Rattle.state_model.specs.declared.geometry.Geometry.{Geometry}
use Rattle.state_model.specs.declared.stream.Extents.{Extents}
use Rattle.state_model.specs.declared.stream.Stream.TheVariants.{Held, Placed}
use Rattle.state_model.specs.Loads.{extents_or, total_clusters}
use Rattle.volume_model.specs.Sizes.{has_hole}
use Rattle.volume_model.specs.Volumes.{Volume, bitmap_file, bytes_or, cluster_bits, file_in, mirror_file}
use Rattle.volume_state.specs.Journals.{limits_name}
use Rattle.stream_laws.specs.Owners.{stream_kind}
use Rattle.stream_laws.specs.Sharing.{stream_at}
use Rattle.resized_streams.specs.declared.resized.Resized.{Resized}
use Rattle.resized_streams.specs.Resizing.{clusters_for, IsCut, IsGrown, unplaced}
use Rattle.plan_owners.specs.States.{Stands}
use Rattle.plan_bodies.specs.Bodies.{NewBody}
use Rattle.plan_draft.specs.declared.touched.Touched.{Touched}
use Rattle.plan_draft.specs.Drafts.{drafted}
use Rattle.table_edits.specs.plan_model.Drafts.{GoesOn, gives_runs}
use Rattle.table_edits.specs.plan_model.Informed.{with_record}
use Rattle.draft_streams.specs.Parts.{touch_bytes}
use Rattle.draft_bits.specs.Effects.{IsKept}
use Rattle.draft_records.specs.Records.{fits_room, touch_record, written_record}
use Rattle.table_edits.specs.draft_bitmaps.declared.bitmap.Bitmap.{Bitmap}
use Rattle.table_edits.specs.plan_growth.Growing.{MayGive}
use Rattle.table_edits.specs.plan_growth.Streams.{IsOwnStream, key_of, marks_streams, MayTake}
use Rattle.table_edits.specs.plan_growth.Trees.{TreeFollows}
use Rattle.table_edits.specs.plan_edits.Edits.{mirror_key}
use Rattle.table_edits.specs.plan_edits.Moves.{EditsDraft}
use Rattle.bitmap_edits.specs.Bitmaps.{IsClusterBitmap, PutsOwnersKept, PutsRunsIn}

-- A draft of a volume, of which the bitmap of clusters and the mirror of the file table are these, over whole bodies in order.
pub record IsDraftOf (c : Content) (v : Volume) (mirror : Extents) (b : Bitmap) (old : List Touched) : Type 0 where
  pub sized : HasSizes c
  pub kept : IsKept old
  pub bitmap : IsClusterBitmap v b
  pub mirror_is : extents_or (stream_at v mirror_key) ≡ mirror

-- a file's record that has room is put, in the table and in its mirror
pub record PutsFileOf (c : Content) (v : Volume) (mirror : Extents) (n : ℕ) (p : Record) (old new : List Touched) : Type 0 where
  pub fits : FitsByRoom p
  pub room : fits_room p ≡ Ok tt
  pub put : new ≡ touch_record c v.per v.table mirror n (record_spelling (written_record p)) old

-- ---- longer runs

-- A stream takes these runs, which may be taken: their bits are set, and then its file is put with them.
pub record GrowsWithBits (c : Content) (v : Volume) (mirror : Extents) (b : Bitmap) (n kind : ℕ) (name : List ℕ) (e : Extents) (r : Record) (more : List Run) (z : Resized) (old mid new : List Touched) (after : Bitmap) : Type 0 where
  pub draft : IsDraftOf c v mirror b old
  pub own : IsOwnStream v n kind name r (Placed e)
  pub spelled : HasSpelling 0 e.runs
  pub grown : IsGrown v.per kind name e r more z
  pub taken : MayTake v.clusters (cluster_bits (drafted old c) v) more
  pub room : total_clusters e.runs + total_clusters more ≤ cluster_limit
  pub bits : PutsRunsIn c v.per v.table mirror true more b old mid after
  pub file : PutsFileOf c v mirror n z.file mid new

-- What is put is an edit over the draft before: first the bits, which keep the owners, then the file. It leads to a state with the stream in
-- these clusters, in which the other files stay, and is an edit of a plan that gives them the kind of the stream's blocks; the stream reads as it did; and the next
-- edit may follow.
pub record HasGrown (c : Content) (g : Geometry) (clusters : ℕ) (v : Volume) (mirror : Extents) (n kind : ℕ) (name : List ℕ) (e : Extents) (r : Record) (more : List Run) (z : Resized) (old mid new : List Touched) (after : Bitmap) : Type 0 where
  pub bits : PutsOwnersKept c g clusters v more true old mid after
  pub bodies : List NewBody
  pub edits : EditsDraft c old new bodies
  pub stands : Stands (drafted new c) g clusters (with_record bits.volume n (written_record z.file))
  pub stream : stream_at (with_record bits.volume n (written_record z.file)) (key_of n kind name) ≡ Some (Placed z.extents)
  pub files : (m : ℕ) → m ≢ n → m ≢ bitmap_file → file_in (with_record bits.volume n (written_record z.file)) m ≡ file_in v m
  pub own_file : file_in (with_record bits.volume n (written_record z.file)) n ≡ Some (written_record z.file)
  pub next : n ≢ mirror_file → IsDraftOf c (with_record bits.volume n (written_record z.file)) mirror after new
  pub tree : has_hole (Some (Placed e)) ≡ false → TreeFollows (drafted mid c) (drafted new c) bits.volume n r (written_record z.file)
  pub bytes : marks_streams (key_of n kind name) ≡ false → bytes_or (drafted new c) v.per (stream_at (with_record bits.volume n (written_record z.file)) (key_of n kind name)) ≡ bytes_or (drafted old c) v.per (stream_at v (key_of n kind name))
  pub goes_on : (first : Content) (start : Volume) (gave : ℕ → Option BlockKind) → MayGive first start (stream_kind (key_of n kind name)) more gave
      → GoesOn first start (drafted old c) g clusters v bodies (with_record bits.volume n (written_record z.file)) gave (gives_runs (stream_kind (key_of n kind name)) more gave)

-- ---- shorter runs

-- A stream that is neither an index nor the mirror of the file table is cut to a size: its file is put so, and then the bits of the clusters that it gives back are cleared.
pub record CutsWithBits (c : Content) (v : Volume) (mirror : Extents) (b : Bitmap) (n kind : ℕ) (name : List ℕ) (e : Extents) (r : Record) (size : ℕ) (z : Resized) (old mid new : List Touched) (after : Bitmap) : Type 0 where
  pub draft : IsDraftOf c v mirror b old
  pub own : IsOwnStream v n kind name r (Placed e)
  pub no_index : index_allocation ≢ kind
  pub no_mirror : n ≢ mirror_file
  pub spelled : HasSpelling 0 e.runs
  pub cut : IsCut v.per kind name e r size z
  pub less : size ≤ e.real
  pub file : PutsFileOf c v mirror n z.file old mid
  pub bits : PutsRunsIn c v.per v.table mirror false z.freed.items b mid new after

-- What is put is an edit over the draft before: first the file, then the bits, which keep the owners. It leads to a state with the stream in
-- its front clusters, in which the other files stay, and is an edit of a plan that gives nothing; the stream reads as the front of what it was.
pub record HasCut (c : Content) (g : Geometry) (clusters : ℕ) (v : Volume) (mirror : Extents) (n kind : ℕ) (name : List ℕ) (e : Extents) (r : Record) (size : ℕ) (z : Resized) (old mid new : List Touched) (after : Bitmap) : Type 0 where
  pub bits : PutsOwnersKept c g clusters (with_record v n (written_record z.file)) z.freed.items false mid new after
  pub bodies : List NewBody
  pub edits : EditsDraft c old new bodies
  pub stands : Stands (drafted new c) g clusters bits.volume
  pub stream : stream_at (with_record v n (written_record z.file)) (key_of n kind name) ≡ Some (Placed z.extents)
  pub files : (m : ℕ) → m ≢ n → m ≢ bitmap_file → file_in bits.volume m ≡ file_in v m
  pub own_file : file_in bits.volume n ≡ Some (written_record z.file)
  pub next : IsDraftOf c bits.volume mirror after new
  pub tree : has_hole (Some (Placed e)) ≡ false → TreeFollows (drafted old c) (drafted mid c) v n r (written_record z.file)
  pub bytes : marks_streams (key_of n kind name) ≡ false → bytes_or (drafted new c) v.per (stream_at bits.volume (key_of n kind name)) ≡ take size (bytes_or (drafted old c) v.per (stream_at v (key_of n kind name)))
  pub goes_on : (first : Content) (start : Volume) (gave : ℕ → Option BlockKind) → ((other : BlockKind) (x : ℕ) → gave x ≡ Some other → bit (cluster_bits first start) x ≡ false)
      → GoesOn first start (drafted old c) g clusters v bodies bits.volume gave gave

-- ---- a value that leaves

-- A stream that was a value, neither an index's nor the limits of a change journal, and has sectors for blocks, takes these runs, which may be
-- taken and have room for another value or the same: their bits are set, its file is put with them, and then the value into its clusters.
pub record MovesWithBits (c : Content) (v : Volume) (mirror : Extents) (b : Bitmap) (n kind : ℕ) (name was value : List ℕ) (r : Record) (more : List Run) (z : Resized) (old mid last new : List Touched) (after : Bitmap) : Type 0 where
  pub draft : IsDraftOf c v mirror b old
  pub own : IsOwnStream v n kind name r (Held was)
  pub no_index : index_allocation ≢ kind
  pub no_limits : limits_name ≢ name
  pub plain : stream_kind (key_of n kind name) ≡ Plain
  pub grown : IsGrown v.per kind name (unplaced (length value)) r more z
  pub taken : MayTake v.clusters (cluster_bits (drafted old c) v) more
  pub enough : clusters_for v.per (length value) ≤ total_clusters more
  pub room : total_clusters more ≤ cluster_limit
  pub bits : PutsRunsIn c v.per v.table mirror true more b old mid after
  pub file : PutsFileOf c v mirror n z.file mid last
  pub put : new ≡ touch_bytes c v.per z.extents.runs 0 0 value last

-- What is put is an edit over the draft before: first the bits, which keep the owners, then the file and the value. It leads to a state with the
-- stream in these clusters, in which the other files stay, and is an edit of a plan that gives them the kind of the stream's blocks; the stream reads as the value.
pub record HasMoved (c : Content) (g : Geometry) (clusters : ℕ) (v : Volume) (mirror : Extents) (n kind : ℕ) (name value : List ℕ) (r : Record) (more : List Run) (z : Resized) (old mid new : List Touched) (after : Bitmap) : Type 0 where
  pub bits : PutsOwnersKept c g clusters v more true old mid after
  pub bodies : List NewBody
  pub edits : EditsDraft c old new bodies
  pub stands : Stands (drafted new c) g clusters (with_record bits.volume n (written_record z.file))
  pub stream : stream_at (with_record bits.volume n (written_record z.file)) (key_of n kind name) ≡ Some (Placed z.extents)
  pub files : (m : ℕ) → m ≢ n → m ≢ bitmap_file → file_in (with_record bits.volume n (written_record z.file)) m ≡ file_in v m
  pub own_file : file_in (with_record bits.volume n (written_record z.file)) n ≡ Some (written_record z.file)
  pub next : n ≢ mirror_file → IsDraftOf c (with_record bits.volume n (written_record z.file)) mirror after new
  pub tree : TreeFollows (drafted mid c) (drafted new c) bits.volume n r (written_record z.file)
  pub bytes : bytes_or (drafted new c) v.per (stream_at (with_record bits.volume n (written_record z.file)) (key_of n kind name)) ≡ value
  pub goes_on : (first : Content) (start : Volume) (gave : ℕ → Option BlockKind) → MayGive first start (stream_kind (key_of n kind name)) more gave
      → GoesOn first start (drafted old c) g clusters v bodies (with_record bits.volume n (written_record z.file)) gave (gives_runs (stream_kind (key_of n kind name)) more gave)

-- So they lead from a state to a state, wherever the bits stand.
pub record ResizedWithBits : Type 0 where
  pub grown : (c : Content) (g : Geometry) (clusters : ℕ) (v : Volume) (mirror : Extents) (b : Bitmap) (n kind : ℕ) (name : List ℕ) (e : Extents) (r : Record) (more : List Run) (z : Resized) (old mid new : List Touched) (after : Bitmap) → g.per_cluster ≡ 8 → Stands (drafted old c) g clusters v
      → GrowsWithBits c v mirror b n kind name e r more z old mid new after → HasGrown c g clusters v mirror n kind name e r more z old mid new after
  pub cut : (c : Content) (g : Geometry) (clusters : ℕ) (v : Volume) (mirror : Extents) (b : Bitmap) (n kind : ℕ) (name : List ℕ) (e : Extents) (r : Record) (size : ℕ) (z : Resized) (old mid new : List Touched) (after : Bitmap) → g.per_cluster ≡ 8 → Stands (drafted old c) g clusters v
      → CutsWithBits c v mirror b n kind name e r size z old mid new after → HasCut c g clusters v mirror n kind name e r size z old mid new after
  pub moved : (c : Content) (g : Geometry) (clusters : ℕ) (v : Volume) (mirror : Extents) (b : Bitmap) (n kind : ℕ) (name was value : List ℕ) (r : Record) (more : List Run) (z : Resized) (old mid last new : List Touched) (after : Bitmap) → g.per_cluster ≡ 8 → Stands (drafted old c) g clusters v
      → MovesWithBits c v mirror b n kind name was value r more z old mid last new after → HasMoved c g clusters v mirror n kind name value r more z old mid new after
