-- What is read of a stream: its bytes in clusters below its initialised size, and whether a view is asked for them.
use Rattle.std.specs.Prelude.{ℕ, ◌/◌, ◌%◌, List, map, slice_index, ⊤}
use Rattle.std.specs.List.{range_with_len}
use Rattle.disk_model.specs.Content.{Content}
use Rattle.record_model.specs.declared.runs.Run.{Run}
use Rattle.state_model.specs.declared.stream.Stream.{Stream}
use Rattle.state_model.specs.declared.stream.Stream.TheVariants.{Held, Placed}
use Rattle.state_model.specs.Streams.{sector_in}

-- the byte of a stream's sectors at a place
abbrev pub placed_byte : Content → ℕ → List Run → ℕ → ℕ
placed_byte c per runs i = slice_index (sector_in c per runs (i / 512)) (i % 512)

-- so many bytes from a place on
abbrev pub placed_bytes : Content → ℕ → List Run → ℕ → ℕ → List ℕ
placed_bytes c per runs at n = map (placed_byte c per runs) (range_with_len at n)

-- the bytes of the stream stand in its record
abbrev pub IsResident : Stream → Type 0
IsResident (Held value) = ⊤
IsResident (Placed extents) = ⊥
