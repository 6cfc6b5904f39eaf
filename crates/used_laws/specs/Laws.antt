-- The used bytes that an operation's plan says are those of the record that is written.
use Rattle.std.specs.Prelude.{◌≡◌, ◌≢◌, ◌⊎◌, ⊤, ℕ, ◌≤◌, true, All, List, [], ◌∷◌, ◌++◌, length, Option, Some, None, Result, Ok, Err}
use Rattle.std.specs.List.{AllByRecursion}
use Rattle.std.specs.List.Sorted.{IsPermutation}
use Rattle.step_model.specs.disk_model.Bytes.{AreBytes}
use Rattle.draft_records.specs.record_model.declared.attribute.Attr.{Attr}
use Rattle.draft_records.specs.record_model.declared.attribute.OwnForm.{OwnForm}
use Rattle.draft_records.specs.record_model.declared.attribute.OwnForm.TheVariants.{Resident, Mapped}
use Rattle.draft_records.specs.record_model.declared.attribute.Sizes.{Sizes}
use Rattle.draft_records.specs.record_model.declared.runs.Run.{Run}
use Rattle.draft_records.specs.record_model.Attributes.{spelling, FitsHeld}
use Rattle.draft_records.specs.record_model.Pairs.{runs_of}
use Rattle.draft_records.specs.record_model.Records.{Record, used_of}
use Rattle.step_model.specs.record_writer.Normal.{normal}
use Rattle.draft_records.specs.state_model.declared.stream.Extents.{Extents}
use Rattle.draft_records.specs.state_model.declared.stream.Stream.TheVariants.{Placed}
use Rattle.draft_records.specs.state_model.Loads.{has_all_pairs, whole_record}
use Rattle.draft_records.specs.state_model.Streams.{first_vcn, attributes_of, stream_of}
use Rattle.record_values.specs.record_streams.Fitting.{FitsButRoom}
use Rattle.record_values.specs.record_streams.Placing.{placed_record}
use Rattle.record_values.specs.Values.{valued_record}
use Rattle.draft_records.specs.Records.{with_normal, written_bytes, fits_room}
use Rattle.step_model.specs.tree_model.declared.reply.Reply.{Reply}
use Rattle.step_model.specs.tree_model.declared.reply.Reply.TheVariants.{RecordFull}
use Rattle.step_model.specs.Used.{used_after, own_attr, value_attr, placed_attr}
use Rattle.step_model.specs.Plans.{full_row}

-- ---- how a record is written

-- the reply where a record has no room, with the bytes that it would use
abbrev pub reply_of : Result (Unit {0}) ℕ → Option Reply
reply_of (Ok done) = None
reply_of (Err used) = Some (RecordFull used)

-- A spelling fills mapping pairs up to a multiple of 8, and so does a record that is written: attributes take as many bytes as they stand
-- and as they are written. So a record is refused exactly where the attributes that stand in it have above 1,024 used bytes, with these.
pub record WrittenAsCounted : Type 0 where
  pub attr : (a : Attr) → length (spelling (normal a)) ≡ length (spelling a)
  pub used : (r : Record) → written_bytes r ≡ used_of r.attrs
  pub refused : (r : Record) → reply_of (fits_room r) ≡ full_row (used_of r.attrs ∷ [])

-- ---- streams that come

-- a stream that is there with these clusters and sizes, or with this value; and one that wasn't there
pub record StreamsUsed : Type 0 where
  pub placed : (per kind : ℕ) (name : List ℕ) (e : Extents) (r : Record) (a : Attr) (others : List Attr) → attributes_of kind name r.attrs ≡ a ∷ others
      → written_bytes (placed_record per kind name e r) ≡ used_after (placed_attr e.real e.initialised e.runs (own_attr kind name r) ∷ []) r
  pub valued : (kind : ℕ) (name value : List ℕ) (r : Record) (a : Attr) (others : List Attr) → attributes_of kind name r.attrs ≡ a ∷ others
      → written_bytes (valued_record kind name value r) ≡ used_after (value_attr (length value) (own_attr kind name r) ∷ []) r
  pub made : (new : Attr) (r : Record) → attributes_of new.head.kind new.name r.attrs ≡ [] → written_bytes (with_normal r (new ∷ [])) ≡ used_after (new ∷ []) r

-- ---- streams one after the other

-- an attribute of another stream
abbrev pub IsOther : ℕ → List ℕ → Attr → Type 0
IsOther kind name a = (a.head.kind ≢ kind) ⊎ (a.name ≢ name)

-- Attributes that come into the record in which one stream has changed come beside what came of it, where they are of other streams. These
-- have the attributes that they had before, and in which order attributes come is free.
pub record StreamsUsedTogether : Type 0 where
  pub none : (r : Record) → used_after [] r ≡ written_bytes r
  pub placed : (per kind : ℕ) (name : List ℕ) (e : Extents) (r : Record) (a : Attr) (others more : List Attr) → attributes_of kind name r.attrs ≡ a ∷ others → AllByRecursion (IsOther kind name) more
      → used_after more (placed_record per kind name e r) ≡ used_after (more ++ placed_attr e.real e.initialised e.runs (own_attr kind name r) ∷ []) r
  pub valued : (kind : ℕ) (name value : List ℕ) (r : Record) (a : Attr) (others more : List Attr) → attributes_of kind name r.attrs ≡ a ∷ others → AllByRecursion (IsOther kind name) more
      → used_after more (valued_record kind name value r) ≡ used_after (more ++ value_attr (length value) (own_attr kind name r) ∷ []) r
  pub made : (new : Attr) (r : Record) (more : List Attr) → attributes_of new.head.kind new.name r.attrs ≡ [] → AllByRecursion (IsOther new.head.kind new.name) more → used_after more (with_normal r (new ∷ [])) ≡ used_after (more ++ new ∷ []) r
  pub own_placed : (per kind other : ℕ) (name alias : List ℕ) (e : Extents) (r : Record) → (other ≢ kind) ⊎ (alias ≢ name) → own_attr other alias (placed_record per kind name e r) ≡ own_attr other alias r
  pub own_valued : (kind other : ℕ) (name alias value : List ℕ) (r : Record) → (other ≢ kind) ⊎ (alias ≢ name) → own_attr other alias (valued_record kind name value r) ≡ own_attr other alias r
  pub order : (attrs others : List Attr) (r : Record) → IsPermutation attrs others → used_after others r ≡ used_after attrs r

-- ---- clusters that stay

-- mapping pairs are bytes
abbrev pub AreFormBytes : OwnForm → Type 0
AreFormBytes (Resident value indexed) = ⊤
AreFormBytes (Mapped sizes pairs) = AreBytes pairs

abbrev pub HasBytes : Attr → Type 0
HasBytes a = AreFormBytes a.form

-- mapping pairs are bytes that are read as runs, and the held size is there where its field is
pub record IsReadMapped (flags : ℕ) (sizes : Sizes) (pairs : List ℕ) : Type 0 where
  pub bytes : AreBytes pairs
  pub runs : List Run
  pub is : runs_of sizes.first pairs ≡ Ok runs
  pub held : FitsHeld flags sizes.first sizes.held

abbrev pub IsReadForm : ℕ → OwnForm → Type 0
IsReadForm flags (Resident value indexed) = ⊤
IsReadForm flags (Mapped sizes pairs) = IsReadMapped flags sizes pairs

-- an attribute as records of a table have it
abbrev pub IsReadAttr : Attr → Type 0
IsReadAttr a = IsReadForm a.head.flags a.form

-- A record of a table has such attributes, and so has a stream of it; a record whose pairs are read has them where they are bytes. A stream
-- from VCN 0 on that stands in clusters takes no more bytes with other sizes and the same runs: it stands in one attribute then, with mapping
-- pairs in the fewest bytes. Once it stands so, it takes as many with any sizes.
pub record SizesUsed : Type 0 where
  pub read : (body : List ℕ) (r : Record) → length body ≡ 1024 → AreBytes body → whole_record body ≡ Ok r → AllByRecursion IsReadAttr r.attrs
  pub own : (kind : ℕ) (name : List ℕ) (r : Record) → AllByRecursion IsReadAttr r.attrs → AllByRecursion IsReadAttr (attributes_of kind name r.attrs)
  pub checked : (kind : ℕ) (name : List ℕ) (r : Record) → FitsButRoom r → has_all_pairs r ≡ true → All HasBytes r.attrs → AllByRecursion IsReadAttr (attributes_of kind name r.attrs)
  pub stays : (per kind : ℕ) (name : List ℕ) (e f : Extents) (r : Record) (a : Attr) (others : List Attr) → attributes_of kind name r.attrs ≡ a ∷ others → AllByRecursion IsReadAttr (a ∷ others) → first_vcn a ≡ 0 → stream_of kind name r.attrs ≡ Some (Placed e) → f.runs ≡ e.runs
      → written_bytes (placed_record per kind name f r) ≤ used_of r.attrs
  pub again : (per kind : ℕ) (name : List ℕ) (e f : Extents) (r : Record) (a : Attr) (others : List Attr) → attributes_of kind name r.attrs ≡ a ∷ others → f.runs ≡ e.runs → written_bytes (placed_record per kind name f (placed_record per kind name e r)) ≡ written_bytes (placed_record per kind name e r)
