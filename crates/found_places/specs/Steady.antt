-- A directory's index that gets no block: of its record the root alone comes to have another length.
use Rattle.std.specs.Prelude.{◌≡◌, ⊤, ℕ, ◌+◌, ◌*◌, ◌/◌, ◌≤◌, length, Option, Some, None}
use Rattle.record_model.specs.Records.{Record}
use Rattle.state_model.specs.declared.stream.Stream.{Stream}
use Rattle.state_model.specs.declared.stream.Stream.TheVariants.{Held, Placed}
use Rattle.state_model.specs.Loads.{total_clusters}
use Rattle.state_model.specs.Streams.{stream_of}
use Rattle.record_model.specs.Constants.{index_allocation, bitmap_type, names_index}
use Rattle.tree_model.specs.Needs.{clusters_for}

-- the bytes of the bitmap of blocks of this size: 8 for each 64 of them
abbrev pub bits_size : ℕ → ℕ
bits_size size = 8 * ((size / 4096 + 63) / 64)

-- a bitmap with a bit for each block, and the clusters for it
abbrev pub HasBits : ℕ → Option Stream → Type 0
HasBits size None = ⊥
HasBits size (Some (Held value)) = bits_size size ≤ length value
HasBits size (Some (Placed e)) = clusters_for (bits_size size) ≤ total_clusters e.runs

-- An index that has no blocks, or that has a bit for each of them.
abbrev pub HasBlocks : Option Stream → Option Stream → Type 0
HasBlocks None bitmap = ⊤
HasBlocks (Some (Held value)) bitmap = length value ≡ 0
HasBlocks (Some (Placed e)) bitmap = HasBits e.real bitmap

abbrev pub IsSteady : Record → Type 0
IsSteady r = HasBlocks (stream_of index_allocation names_index r.attrs) (stream_of bitmap_type names_index r.attrs)
