-- What bytes that are put into a stream make of it.
use Rattle.std.specs.Prelude.{◌≡◌, ◌≢◌, ◌⊎◌, ℕ, ◌+◌, ◌-◌, ◌/◌, ◌%◌, ◌<◌, ◌≤◌, true, false, nat_le, All, List, length, slice_index, Some}
use Rattle.stream_map.specs.disk_model.declared.block.Block.{Block}
use Rattle.stream_map.specs.disk_model.declared.block.BlockKind.TheVariants.{Plain}
use Rattle.stream_map.specs.disk_model.Content.{Content, HasSizes}
use Rattle.stream_map.specs.disk_model.Sectors.{same_block}
use Rattle.stream_map.specs.record_model.declared.runs.Run.{Run}
use Rattle.stream_map.specs.state_model.Streams.{block_at}
use Rattle.plan_draft.specs.plan_bodies.Bodies.{body_in}
use Rattle.plan_draft.specs.declared.touched.Touched.{Touched}
use Rattle.plan_draft.specs.Touching.{bodies_of, rises, keys_of, IsWhole}
use Rattle.plan_draft.specs.Writing.{present}
use Rattle.draft_streams.specs.Parts.{first_sector, sector_count, touch_bytes}

-- each sector of the stream lies in a block of its own
abbrev pub HasOwnSectors : ℕ → List Run → Type 0
HasOwnSectors per runs = (s t : ℕ) (a b : Block) → s ≢ t → block_at per runs Plain s ≡ Some a → block_at per runs Plain t ≡ Some b → same_block a b ≡ false

-- the byte at a place of the stream, as the touched blocks have it
abbrev pub byte_put : List Touched → Block → ℕ → ℕ → Type 0
byte_put touched b i value = (bytes : List ℕ) × ((body_in (bodies_of touched) b ≡ Some bytes) × (slice_index bytes (i % 512) ≡ value))

-- Each byte stands at its place; in the same sectors the others are those of before, or zeros in a fresh one that wasn't put; and
-- no other block is touched. What is touched stays whole bodies in order.
pub record BytesArePut : Type 0 where
  pub inside : (c : Content) (per : ℕ) (runs : List Run) (fresh at i : ℕ) (bytes : List ℕ) (touched : List Touched) (b : Block) → HasSizes c → rises 0 (keys_of touched) ≡ true → All IsWhole touched → HasOwnSectors per runs
      → block_at per runs Plain (i / 512) ≡ Some b → at ≤ i → i < at + length bytes → byte_put (touch_bytes c per runs fresh at bytes touched) b i (slice_index bytes (i - at))
  pub beside : (c : Content) (per : ℕ) (runs : List Run) (fresh at i : ℕ) (bytes : List ℕ) (touched : List Touched) (b : Block) → HasSizes c → rises 0 (keys_of touched) ≡ true → All IsWhole touched → HasOwnSectors per runs
      → block_at per runs Plain (i / 512) ≡ Some b → first_sector at ≤ i / 512 → i / 512 < first_sector at + sector_count at (length bytes) → (i < at) ⊎ (at + length bytes ≤ i)
      → byte_put (touch_bytes c per runs fresh at bytes touched) b i (slice_index (present c (bodies_of touched) b (nat_le fresh (i / 512))) (i % 512))
  pub others : (c : Content) (per : ℕ) (runs : List Run) (fresh at : ℕ) (bytes : List ℕ) (touched : List Touched) (b : Block)
      → ((s : ℕ) (a : Block) → first_sector at ≤ s → s < first_sector at + sector_count at (length bytes) → block_at per runs Plain s ≡ Some a → same_block b a ≡ false)
      → body_in (bodies_of (touch_bytes c per runs fresh at bytes touched)) b ≡ body_in (bodies_of touched) b
  pub order : (c : Content) (per : ℕ) (runs : List Run) (fresh at : ℕ) (bytes : List ℕ) (touched : List Touched) → HasSizes c → rises 0 (keys_of touched) ≡ true → All IsWhole touched → rises 0 (keys_of (touch_bytes c per runs fresh at bytes touched)) ≡ true
  pub sizes : (c : Content) (per : ℕ) (runs : List Run) (fresh at : ℕ) (bytes : List ℕ) (touched : List Touched) → HasSizes c → rises 0 (keys_of touched) ≡ true → All IsWhole touched → All IsWhole (touch_bytes c per runs fresh at bytes touched)
