-- What bits that are put into a bitmap make of it, wherever it stands.
use Rattle.std.specs.Prelude.{◌≡◌, ◌⊎◌, ⊤, ℕ, ◌+◌, ◌/◌, ◌<◌, ◌≤◌, false, Bool, cond, List, Result, Ok, Some}
use Rattle.disk_model.specs.declared.block.Block.{Block}
use Rattle.disk_model.specs.declared.block.BlockKind.TheVariants.{Plain}
use Rattle.disk_model.specs.Content.{Content, HasSizes}
use Rattle.disk_model.specs.Sectors.{same_block}
use Rattle.draft_resized.specs.state_model.declared.stream.Extents.{Extents}
use Rattle.draft_resized.specs.state_model.declared.stream.Stream.{Stream}
use Rattle.draft_resized.specs.state_model.declared.stream.Stream.TheVariants.{Held, Placed}
use Rattle.draft_resized.specs.state_model.Streams.{block_at}
use Rattle.plan_bodies.specs.Bodies.{body_in}
use Rattle.draft_resized.specs.plan_draft.declared.touched.Touched.{Touched}
use Rattle.draft_resized.specs.plan_draft.Touching.{bodies_of}
use Rattle.draft_resized.specs.plan_draft.Drafts.{drafted}
use Rattle.draft_resized.specs.draft_streams.Effects.{HasOwnSectors}
use Rattle.draft_resized.specs.draft_bits.Effects.{IsKept, IsNoSector}
use Rattle.draft_resized.specs.draft_records.Records.{record_block, fits_room}
use Rattle.draft_bitmaps.specs.declared.bitmap.Bitmap.{Bitmap}
use Rattle.draft_bitmaps.specs.Bitmaps.{bitmap_bit, with_value, with_extents, own_bytes, is_below, raised, IsBitmap, PutsBitsOf}

-- whether the record that is put for such bits has room: none is put for bits in clusters below the initialised size
abbrev pub room_in : Stream → ℕ → Bitmap → ℕ → ℕ → Result (Unit {0}) ℕ
room_in (Held value) per b first len = fits_room (with_value value b).file
room_in (Placed e) per b first len = cond (is_below e first len) (Ok tt) (fits_room (with_extents per (raised first len e) b).file)

abbrev pub room_of : ℕ → Bitmap → ℕ → ℕ → Result (Unit {0}) ℕ
room_of per b first len = room_in b.stream per b first len

-- its sectors, if it has any, lie apart
abbrev pub HasApartSectors : ℕ → Stream → Type 0
HasApartSectors per (Held value) = ⊤
HasApartSectors per (Placed e) = HasOwnSectors per e.runs

-- the bit's sector lies in a run, if the bitmap has sectors
abbrev pub LiesInRun : ℕ → Stream → ℕ → Type 0
LiesInRun per (Held value) i = ⊤
LiesInRun per (Placed e) i = (b : Block) × (block_at per e.runs Plain (i / 8 / 512) ≡ Some b)

-- the block is none of its sectors
abbrev pub IsNoneOf : ℕ → Stream → Block → Type 0
IsNoneOf per (Held value) block = ⊤
IsNoneOf per (Placed e) block = IsNoSector per e.runs block

-- the block isn't that of the record in these extents
abbrev pub IsNoRecord : ℕ → Extents → ℕ → Block → Type 0
IsNoRecord per e n block = (a : Block) → record_block per e n ≡ Some a → same_block block a ≡ false

-- bits are put into a bitmap over whole bodies in order, its record has room where it is put, and its sectors lie apart
pub record PutsBitmap (c : Content) (per : ℕ) (table mirror : Extents) (b : Bitmap) (first len : ℕ) (bit : Bool) (old new : List Touched) (after : Bitmap) : Type 0 where
  pub sized : HasSizes c
  pub kept : IsKept old
  pub stands : IsBitmap after
  pub room : room_of per b first len ≡ Ok tt
  pub own : HasApartSectors per b.stream
  pub put : PutsBitsOf c per table mirror b first len bit old new after

-- Each of the bits has the value, if its sector lies in a run, and each other one is as before. The bitmap's record stands in its block,
-- or bitmap and record are as before. No block is touched but the bitmap's sectors and its record's, and what is touched are whole bodies
-- in order.
pub record BitmapIsPut : Type 0 where
  pub inside : (c : Content) (per : ℕ) (table mirror : Extents) (b after : Bitmap) (first len i : ℕ) (bit : Bool) (old new : List Touched) → PutsBitmap c per table mirror b first len bit old new after
      → LiesInRun per b.stream i → first ≤ i → i < first + len → bitmap_bit (drafted new c) per after.stream i ≡ bit
  pub others : (c : Content) (per : ℕ) (table mirror : Extents) (b after : Bitmap) (first len i : ℕ) (bit : Bool) (old new : List Touched) → PutsBitmap c per table mirror b first len bit old new after
      → (i < first) ⊎ (first + len ≤ i) → bitmap_bit (drafted new c) per after.stream i ≡ bitmap_bit (drafted old c) per b.stream i
  pub own : (c : Content) (per : ℕ) (table mirror : Extents) (b after : Bitmap) (first len : ℕ) (bit : Bool) (old new : List Touched) (block : Block) → PutsBitmap c per table mirror b first len bit old new after
      → record_block per table b.number ≡ Some block → (body_in (bodies_of new) block ≡ Some (own_bytes after)) ⊎ ((after ≡ b) × (body_in (bodies_of new) block ≡ body_in (bodies_of old) block))
  pub elsewhere : (c : Content) (per : ℕ) (table mirror : Extents) (b after : Bitmap) (first len : ℕ) (bit : Bool) (old new : List Touched) (block : Block) → PutsBitmap c per table mirror b first len bit old new after
      → IsNoneOf per b.stream block → IsNoRecord per table b.number block → IsNoRecord per mirror b.number block → body_in (bodies_of new) block ≡ body_in (bodies_of old) block
  pub whole : (c : Content) (per : ℕ) (table mirror : Extents) (b after : Bitmap) (first len : ℕ) (bit : Bool) (old new : List Touched) → PutsBitmap c per table mirror b first len bit old new after → IsKept new
