-- Bits of a bitmap that a plan sets or clears: in a value of its record, or in clusters.
use Rattle.std.specs.Prelude.{◌≡◌, ℕ, ◌+◌, ◌-◌, ◌*◌, ◌/◌, ◌<◌, ◌≤◌, ◌^◌, max, Bool, nat_le, cond, List, [], length, Option, Some, None}
use Rattle.disk_model.specs.Bytes.{zeros}
use Rattle.disk_model.specs.Content.{Content}
use Rattle.record_model.specs.Pairs.{HasSpelling}
use Rattle.record_model.specs.Records.{record_spelling}
use Rattle.bit_set.specs.Words.{byte_bit}
use Rattle.draft_resized.specs.state_model.declared.stream.Extents.{Extents}
use Rattle.draft_resized.specs.state_model.declared.stream.Stream.{Stream}
use Rattle.draft_resized.specs.state_model.declared.stream.Stream.TheVariants.{Held, Placed}
use Rattle.draft_resized.specs.plan_draft.declared.touched.Touched.{Touched}
use Rattle.record_values.specs.record_streams.Fitting.{FitsButRoom, IsPlaceable}
use Rattle.record_values.specs.record_streams.Placing.{placed_record}
use Rattle.record_values.specs.Values.{valued_record}
use Rattle.draft_resized.specs.resized_streams.Resizing.{with_sizes}
use Rattle.draft_resized.specs.draft_streams.Parts.{touch_bytes}
use Rattle.draft_resized.specs.draft_bits.Filling.{FillsBytes, first_past, PutsBits}
use Rattle.draft_resized.specs.draft_bits.Effects.{stream_bit}
use Rattle.draft_resized.specs.draft_records.Records.{written_record, touch_record}
use Rattle.draft_bitmaps.specs.declared.bitmap.Bitmap.{Bitmap}

-- ---- the bitmap

-- the bit with this number, as a content has it
abbrev pub bitmap_bit : Content → ℕ → Stream → ℕ → Bool
bitmap_bit c per (Held value) i = byte_bit value i
bitmap_bit c per (Placed e) i = stream_bit c per e i

-- as a value of these bytes
abbrev pub with_value : List ℕ → Bitmap → Bitmap
with_value bytes b = record { number = b.number; kind = b.kind; file = valued_record b.kind [] bytes b.file; stream = Held bytes }

-- in these clusters, of so many sectors each
abbrev pub with_extents : ℕ → Extents → Bitmap → Bitmap
with_extents per e b = record { number = b.number; kind = b.kind; file = placed_record per b.kind [] e b.file; stream = Placed e }

-- its record as it is written
abbrev pub own_bytes : Bitmap → List ℕ
own_bytes b = record_spelling (written_record b.file)

-- that record put, in the table and in the mirror
abbrev pub with_record : Content → ℕ → Extents → Extents → Bitmap → List Touched → List Touched
with_record c per table mirror b touched = touch_record c per table mirror b.number (own_bytes b) touched

-- ---- in its record

-- the value has the bits, and the bitmap has the value
abbrev pub HasFilled : Bitmap → List ℕ → ℕ → ℕ → Bool → Bitmap → Type 0
HasFilled b value first len bit new = (bytes : List ℕ) × (FillsBytes value bytes first (first + len) bit × (new ≡ with_value bytes b))

-- the bits are put into the value, and the record with it
abbrev pub PutsHeld : Content → ℕ → Extents → Extents → Bitmap → List ℕ → ℕ → ℕ → Bool → List Touched → List Touched → Bitmap → Type 0
PutsHeld c per table mirror b value first len bit old new after = HasFilled b value first len bit after × (new ≡ with_record c per table mirror after old)

-- ---- in clusters

-- where the bytes end that have these bits
abbrev pub byte_end : ℕ → ℕ → ℕ
byte_end first len = (first + len + 7) / 8

-- the bits lie below the initialised size
abbrev pub is_below : Extents → ℕ → ℕ → Bool
is_below e first len = nat_le (byte_end first len) e.initialised

-- with an initialised size that isn't below this one
abbrev pub with_initialised : ℕ → Extents → Extents
with_initialised end e = with_sizes e.real (max e.initialised end) e

-- raised, so that these bits lie below it
abbrev pub raised : ℕ → ℕ → Extents → Extents
raised first len e = with_initialised (byte_end first len) e

-- zeros put from the initialised size on, below this end
abbrev pub with_zeros : Content → ℕ → Extents → ℕ → List Touched → List Touched
with_zeros c per e end touched = touch_bytes c per e.runs (first_past e) e.initialised (zeros (end - e.initialised)) touched

-- the zeros are put, and then the bits into the stream of the raised size
abbrev pub PutsPast : Content → ℕ → Extents → ℕ → ℕ → Bool → List Touched → List Touched → Type 0
PutsPast c per e first len bit old new = PutsBits c per (raised first len e) first len bit (with_zeros c per e (byte_end first len) old) new

-- the record is put before them
abbrev pub PutsRaised : Content → ℕ → Extents → Extents → Bitmap → Extents → ℕ → ℕ → Bool → List Touched → List Touched → Type 0
PutsRaised c per table mirror after e first len bit old new = PutsPast c per e first len bit (with_record c per table mirror after old) new

-- the bits are put where they are, or past the initialised size
abbrev pub PutsPlacedBy : Bool → Content → ℕ → Extents → Extents → Bitmap → Extents → ℕ → ℕ → Bool → List Touched → List Touched → Bitmap → Type 0
PutsPlacedBy below c per table mirror b e first len bit old new after =
    cond below (PutsBits c per e first len bit old new × (after ≡ b)) (PutsRaised c per table mirror after e first len bit old new × (after ≡ with_extents per (raised first len e) b))

abbrev pub PutsPlaced : Content → ℕ → Extents → Extents → Bitmap → Extents → ℕ → ℕ → Bool → List Touched → List Touched → Bitmap → Type 0
PutsPlaced c per table mirror b e first len bit old new after = PutsPlacedBy (is_below e first len) c per table mirror b e first len bit old new after

-- ---- wherever it stands

-- the bits are put into the bitmap of this stream
abbrev pub PutsInto : Stream → Content → ℕ → Extents → Extents → Bitmap → ℕ → ℕ → Bool → List Touched → List Touched → Bitmap → Type 0
PutsInto (Held value) c per table mirror b first len bit old new after = PutsHeld c per table mirror b value first len bit old new after
PutsInto (Placed e) c per table mirror b first len bit old new after = PutsPlaced c per table mirror b e first len bit old new after

-- the bits are put into the bitmap
abbrev pub PutsBitsOf : Content → ℕ → Extents → Extents → Bitmap → ℕ → ℕ → Bool → List Touched → List Touched → Bitmap → Type 0
PutsBitsOf c per table mirror b first len bit old new after = PutsInto b.stream c per table mirror b first len bit old new after

-- clusters that follow one another
pub record IsShortPlaced (e : Extents) : Type 0 where
  pub spelled : HasSpelling 0 e.runs
  pub few : length e.runs ≤ 2 ^ 16
  pub size : e.initialised < 2 ^ 61

-- a stream that may be given other bits: a value that a record may have, or such clusters
abbrev pub IsShortStream : Stream → Type 0
IsShortStream (Held value) = length value ≤ 2 ^ 16
IsShortStream (Placed e) = IsShortPlaced e

-- a stream of a file, whose record has a spelling but for its room
pub record IsBitmap (b : Bitmap) : Type 0 where
  pub number : b.number < 2 ^ 48
  pub kind : IsPlaceable b.kind
  pub fits : FitsButRoom b.file
  pub stream : IsShortStream b.stream

-- how many bits it has
abbrev pub bit_count : Stream → ℕ
bit_count (Held value) = 8 * length value
bit_count (Placed e) = 8 * e.real

-- the bitmap that came of it, if it is another one
abbrev pub changed_or : Bitmap → Option Bitmap → Bitmap
changed_or b None = b
changed_or b (Some new) = new
