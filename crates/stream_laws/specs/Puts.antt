-- Writes that put bytes into a stream.
use Rattle.std.specs.Prelude.{◌≡◌, ℕ, ◌+◌, ◌/◌, ◌%◌, ◌<◌, ◌≤◌, min, List, [], ◌∷◌, length, Some}
use Rattle.volume_model.specs.disk_model.declared.block.Block.{Block}
use Rattle.volume_model.specs.disk_model.declared.block.BlockKind.TheVariants.{Plain}
use Rattle.volume_model.specs.disk_model.Bytes.{written}
use Rattle.volume_model.specs.disk_model.Content.{Content, HasSizes}
use Rattle.volume_model.specs.disk_model.Writes.{Write, overlay}
use Rattle.volume_model.specs.disk_model.Laws.{IsElsewhere}
use Rattle.volume_model.specs.state_model.declared.stream.Extents.{Extents}
use Rattle.volume_model.specs.state_model.Streams.{block_at, extent_bytes}
use Rattle.stream_laws.specs.Frames.{IsRead}
use Rattle.stream_laws.specs.Places.{AreOnce}

-- these bytes from this place of a stream on
pub record Put : Type 0 where
  pub at : ℕ
  pub bytes : List ℕ

-- the bytes of a stream after these puts, one after the other
abbrev pub all_put : List Put → List ℕ → List ℕ
all_put [] bytes = bytes
all_put (p ∷ puts) bytes = all_put puts (written p.at p.bytes bytes)

-- the write puts these bytes into a sector of the stream, below its initialised and its real size
pub record IsPut (per : ℕ) (e : Extents) (w : Write) (p : Put) : Type 0 where
  pub lies : block_at per e.runs Plain (p.at / 512) ≡ Some w.block
  pub place : w.at ≡ p.at % 512
  pub bytes : w.bytes ≡ p.bytes
  pub in_sector : p.at % 512 + length p.bytes ≤ 512
  pub below : p.at + length p.bytes ≤ min e.initialised e.real

-- what writes put into a stream: each is a put, or goes to a block that holds no bytes of the stream
pub data ArePuts (per : ℕ) (e : Extents) : List Write → List Put → Type 0 where
  none : ArePuts per e [] []
  inside : (w : Write) (p : Put) (writes : List Write) (puts : List Put) → IsPut per e w p → ArePuts per e writes puts → ArePuts per e (w ∷ writes) (p ∷ puts)
  outside : (w : Write) (writes : List Write) (puts : List Put) → ((b : Block) → IsRead per e b → IsElsewhere b w) → ArePuts per e writes puts → ArePuts per e (w ∷ writes) puts

-- where no cluster lies twice in a stream, its bytes after writes are those after the puts that these are
abbrev pub PutsAreWritten : Type 0
PutsAreWritten = (c : Content) (writes : List Write) (per : ℕ) (e : Extents) (puts : List Put) → HasSizes c → 0 < per → AreOnce e.runs → ArePuts per e writes puts → extent_bytes (overlay c writes) per e ≡ all_put puts (extent_bytes c per e)
