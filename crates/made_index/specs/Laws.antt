-- What a step says of a directory whose index has its root alone, and of its record once the index has blocks and a bitmap.
use Rattle.std.specs.Prelude.{◌≡◌, ℕ, ◌+◌, ◌<◌, ◌≤◌, ◌^◌, Bool, true, List, [], ◌∷◌, All, length, Some}
use Rattle.record_model.specs.Constants.{index_root, index_allocation, bitmap_type, names_index}
use Rattle.record_model.specs.Records.{Record}
use Rattle.record_writer.specs.Normal.{normal}
use Rattle.index_model.specs.Trees.{Tree}
use Rattle.state_model.specs.declared.stream.Stream.TheVariants.{Held, Placed}
use Rattle.state_model.specs.Files.{has_type}
use Rattle.state_model.specs.Streams.{attributes_of}
use Rattle.record_streams.specs.Fitting.{FitsButRoom}
use Rattle.record_values.specs.Values.{valued_record}
use Rattle.resized_streams.specs.Resizing.{unplaced}
use Rattle.draft_records.specs.Records.{written_bytes}
use Rattle.made_data.specs.step_model.Streams.{wanted_blocks, wanted_used}
use Rattle.made_data.specs.used_laws.Laws.{HasBytes}
use Rattle.made_data.specs.Ids.{new_id, with_id, with_attr}
use Rattle.directory_growth.specs.declared.change.IndexChange.{IndexChange}
use Rattle.directory_growth.specs.Growing.{blocks_in, bits_in, HasIndex, root_bytes, GrowsLittle, blocks_growth, growths_of, used_with, row_of}
use Rattle.directory_growth.specs.Laws.{file_of}
use Rattle.made_index.specs.Made.{HasNoStreams, empty_blocks, empty_bits, with_empty_index, indexed_record}
use Rattle.made_index.specs.Growing.{HasRoot, MayGrow, IsAnyChange}

-- A directory whose index has its root alone has no attribute of its blocks and of their bitmap, and its record as it is made has one of each,
-- which are empty. What a step says of the directory that gets blocks is what it says of the record as it is made: the same clusters come, and it
-- has the same used bytes and so the same row. One that gets none stays its root alone in the step, and the record as it is made has the
-- bytes of both attributes more. It has what more blocks of an index ask for.
pub record IndexIsCounted : Type 0 where
  pub no_blocks : (r : Record) → HasNoStreams r → attributes_of index_allocation names_index r.attrs ≡ []
  pub no_bits : (r : Record) → HasNoStreams r → attributes_of bitmap_type names_index r.attrs ≡ []
  pub blocks : (r : Record) → HasNoStreams r → attributes_of index_allocation names_index (indexed_record r).attrs ≡ normal (with_id (new_id r) empty_blocks) ∷ []
  pub bits : (r : Record) → HasNoStreams r → attributes_of bitmap_type names_index (indexed_record r).attrs ≡ with_id (new_id (with_attr empty_blocks r)) empty_bits ∷ []
  pub placed : (r : Record) → HasNoStreams r → blocks_in (indexed_record r) ≡ Some (Placed (unplaced 0))
  pub held : (r : Record) → HasNoStreams r → bits_in (indexed_record r) ≡ Some (Held [])
  pub wants : (n : ℕ) (r : Record) (more : ℕ) → HasNoStreams r → wanted_blocks n (indexed_record r) more ≡ wanted_blocks n r more
  pub wants_bits : (n : ℕ) (r : Record) (more : ℕ) → HasNoStreams r → wanted_used n (indexed_record r) more ≡ wanted_used n r more
  pub takes : (bits : List Bool) (n : ℕ) (r : Record) (more : ℕ) → HasNoStreams r → blocks_growth bits n (indexed_record r) more ≡ blocks_growth bits n r more
  pub growths : (bits : List Bool) (n : ℕ) (r : Record) (t : Tree) (more : ℕ) → HasNoStreams r → growths_of bits n (indexed_record r) t more ≡ growths_of bits n r t more
  pub used : (bits : List Bool) (n : ℕ) (r : Record) (t : Tree) (more : ℕ) → HasNoStreams r → 0 < more → used_with bits n (indexed_record r) t more ≡ used_with bits n r t more
  pub row : (bits : List Bool) (n : ℕ) (r : Record) (t : Tree) (more : ℕ) → HasNoStreams r → 0 < more → row_of bits n (indexed_record r) t more ≡ row_of bits n r t more
  pub alone : (bits : List Bool) (n : ℕ) (r : Record) (t : Tree) → HasNoStreams r → used_with bits n (indexed_record r) t 0 ≡ used_with bits n r t 0 + 0x70
  pub fits : (r : Record) → FitsButRoom r → length r.attrs + 1 < 2 ^ 10 → FitsButRoom (with_empty_index r)
  pub has : (clusters : ℕ) (r : Record) → HasRoot r → HasIndex clusters (indexed_record r)
  pub types : (r : Record) (kind : ℕ) → has_type kind r ≡ true → has_type kind (indexed_record r) ≡ true

-- What was made of an index that may grow has, with a root of the length that it comes to have, at most the used bytes that the step says.
abbrev pub AnyIndexHasRoom : Type 0
AnyIndexHasRoom = (clusters : ℕ) (bits : List Bool) (n : ℕ) (r : Record) (t : Tree) (more : ℕ) (a : IndexChange) (value : List ℕ) → MayGrow clusters r → GrowsLittle r (root_bytes t) more → All HasBytes r.attrs → IsAnyChange bits n r t more a → length value ≡ root_bytes t
    → written_bytes (valued_record index_root names_index value (file_of a.bits)) ≤ a.used
