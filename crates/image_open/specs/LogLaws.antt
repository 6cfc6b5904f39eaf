-- The log's sectors are those that its stream has.
use Rattle.std.specs.Prelude.{ℕ, ◌≡◌, ◌*◌, ◌/◌, ◌<◌, min, Some}
use Rattle.disk_model.specs.declared.block.Block.{Block}
use Rattle.disk_model.specs.declared.block.BlockKind.TheVariants.{Plain}
use Rattle.state_model.specs.declared.stream.Extents.{Extents}
use Rattle.state_model.specs.declared.stream.Stream.TheVariants.{Placed}
use Rattle.state_model.specs.Streams.{block_at}
use Rattle.log_recovery.specs.log_page.Places.{page_bytes}
use Rattle.log_recovery.specs.log_reading.LogPages.{log_sector}
use Rattle.image_open.specs.LogPlaces.{nowhere, stream_place}

-- Each sector that the stream has on the device, in whole pages and below the initialised size, is the log's sector of that number; and
-- the log has no other.
pub record LogLiesInStream : Type 0 where
  pub each : (per clusters device : ℕ) (e : Extents) (n : ℕ) (b : Block) → block_at per e.runs Plain n ≡ Some b → b.first < min nowhere device → 512 * n < min e.initialised (page_bytes * (e.real / page_bytes))
      → log_sector (stream_place per clusters device (Placed e)) n ≡ Some b.first
  pub only : (per clusters device : ℕ) (e : Extents) (n s : ℕ) → log_sector (stream_place per clusters device (Placed e)) n ≡ Some s → block_at per e.runs Plain n ≡ Some (record { first = s; kind = Plain })
