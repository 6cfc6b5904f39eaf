-- What bits that are put into a bitmap in clusters make of it.
use Rattle.std.specs.Prelude.{◌≡◌, ◌⊎◌, ℕ, ◌+◌, ◌/◌, ◌%◌, ◌<◌, ◌≤◌, true, false, Bool, All, List, Some}
use Rattle.draft_streams.specs.disk_model.declared.block.Block.{Block}
use Rattle.draft_streams.specs.disk_model.declared.block.BlockKind.TheVariants.{Plain}
use Rattle.draft_streams.specs.disk_model.Content.{Content, HasSizes}
use Rattle.draft_streams.specs.disk_model.Sectors.{same_block}
use Rattle.draft_streams.specs.record_model.declared.runs.Run.{Run}
use Rattle.bit_set.specs.Words.{is_one}
use Rattle.draft_streams.specs.state_model.declared.stream.Extents.{Extents}
use Rattle.draft_streams.specs.state_model.Streams.{block_at, byte_at}
use Rattle.draft_streams.specs.plan_bodies.Bodies.{body_in}
use Rattle.draft_streams.specs.plan_draft.declared.touched.Touched.{Touched}
use Rattle.draft_streams.specs.plan_draft.Touching.{bodies_of, rises, keys_of, IsWhole}
use Rattle.draft_streams.specs.plan_draft.Drafts.{drafted}
use Rattle.draft_streams.specs.Effects.{HasOwnSectors}
use Rattle.draft_bits.specs.Filling.{PutsBits}

-- the bit of the stream at a place, as a content has it
abbrev pub stream_bit : Content → ℕ → Extents → ℕ → Bool
stream_bit c per e i = is_one (byte_at c per e (i / 8)) (i % 8)

-- whole bodies in order, as a draft keeps them
pub record IsKept (touched : List Touched) : Type 0 where
  pub rises : rises 0 (keys_of touched) ≡ true
  pub whole : All IsWhole touched

-- the block isn't a sector of the stream
abbrev pub IsNoSector : ℕ → List Run → Block → Type 0
IsNoSector per runs b = (s : ℕ) (a : Block) → block_at per runs Plain s ≡ Some a → same_block b a ≡ false

-- Where the sectors of the stream lie apart, the bits that are put have the value, if their sectors lie in runs, and each other bit
-- is as before, as far as bytes lie below the initialised size. No block is touched but the stream's sectors, and what is touched are
-- whole bodies in order.
pub record BitsArePut : Type 0 where
  pub inside : (c : Content) (per : ℕ) (e : Extents) (first len i : ℕ) (value : Bool) (old new : List Touched) (b : Block) → HasSizes c → IsKept old → IsKept new → HasOwnSectors per e.runs → PutsBits c per e first len value old new
      → i / 8 < e.initialised → block_at per e.runs Plain (i / 8 / 512) ≡ Some b → first ≤ i → i < first + len → stream_bit (drafted new c) per e i ≡ value
  pub others : (c : Content) (per : ℕ) (e : Extents) (first len i : ℕ) (value : Bool) (old new : List Touched) → HasSizes c → IsKept old → IsKept new → HasOwnSectors per e.runs → PutsBits c per e first len value old new
      → i / 8 < e.initialised → (i < first) ⊎ (first + len ≤ i) → stream_bit (drafted new c) per e i ≡ stream_bit (drafted old c) per e i
  pub elsewhere : (c : Content) (per : ℕ) (e : Extents) (first len : ℕ) (value : Bool) (old new : List Touched) (b : Block) → PutsBits c per e first len value old new → IsNoSector per e.runs b → body_in (bodies_of new) b ≡ body_in (bodies_of old) b
  pub kept : (c : Content) (per : ℕ) (e : Extents) (first len : ℕ) (value : Bool) (old new : List Touched) → HasSizes c → IsKept old → PutsBits c per e first len value old new → IsKept new
