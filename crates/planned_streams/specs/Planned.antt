-- Streams that a plan may change, as they are read of a file's record.
use Rattle.std.specs.Prelude.{◌≡◌, ℕ, IfSome, MatchOption, [], Option, Some, None}
use Rattle.std.specs.Option.{option_map}
use Rattle.record_model.specs.Constants.{data_type, bitmap_type}
use Rattle.record_model.specs.Records.{Record}
use Rattle.draft_growth.specs.state_model.declared.stream.Extents.{Extents}
use Rattle.draft_growth.specs.state_model.declared.stream.Stream.{Stream}
use Rattle.draft_growth.specs.state_model.declared.stream.Stream.TheVariants.{Held, Placed}
use Rattle.draft_growth.specs.state_model.Streams.{stream_of}
use Rattle.draft_growth.specs.draft_bitmaps.declared.bitmap.Bitmap.{Bitmap}
use Rattle.draft_growth.specs.declared.table.Table.{Table}

-- What is there is answered where it may be changed, and nothing where it isn't there or may not.
abbrev pub IsWhere : {A : Type 0} → (A → Type 0) → Option A → Option A → Type 0
IsWhere may there answer = MatchOption answer (IfSome there (λ a. ¬ may a)) (λ a. (there ≡ Some a) × may a)

-- the bitmap that is this stream of a file with this number
abbrev pub as_bitmap : ℕ → ℕ → Record → Stream → Bitmap
as_bitmap n kind r s = record { number = n; kind = kind; file = r; stream = s }

-- the bitmap that is the unnamed stream of this type in a file's record
abbrev pub bitmap_in : ℕ → ℕ → Record → Option Bitmap
bitmap_in n kind r = option_map (as_bitmap n kind r) (stream_of kind [] r.attrs)

-- the clusters of a stream that lies in some
abbrev pub placed_in : Option Stream → Option Extents
placed_in None = None
placed_in (Some (Held value)) = None
placed_in (Some (Placed e)) = Some e

-- the clusters of a record's unnamed data
abbrev pub placed_data : Record → Option Extents
placed_data r = placed_in (stream_of data_type [] r.attrs)

abbrev pub table_with : Option Extents → Option Bitmap → Option Table
table_with None b = None
table_with (Some e) None = None
table_with (Some e) (Some b) = Some (record { extents = e; bitmap = b })

-- the file table that this record 0 has, if its data lie in clusters and it has a bitmap
abbrev pub table_in : Record → Option Table
table_in r = table_with (placed_data r) (bitmap_in 0 bitmap_type r)
