-- The pages that changes take from now on: by the sizes of their entries alone.
use Rattle.std.specs.Prelude.{ℕ, ◌+◌, ◌^◌, ◌-◌, ◌==◌, ◌&&◌, not, min, nat_le, nat_lt, if◌then◌else◌, Bool, true, false, List, [], ◌∷◌, ◌++◌, length, map}
use Rattle.store_pools.specs.disk_model.declared.block.Block.{Block}
use Rattle.store_pools.specs.disk_model.declared.block.Change.{Change}
use Rattle.store_pools.specs.disk_model.Sectors.{same_block, are_rivals}
use Rattle.store_pools.specs.log_model.Entries.{head_size, update_size}
use Rattle.store_pools.specs.log_page.Places.{page_bytes, entries_at}
use Rattle.store_pools.specs.txn_model.Pieces.{Piece, logged_pieces}

-- An entry of so many bytes begins a page, where the first free byte of the page that is filled has this offset; and that offset behind the entry.
abbrev pub begins_page : ℕ → ℕ → Bool
begins_page free bytes = not (nat_lt entries_at free && nat_le (free + bytes) page_bytes)

abbrev pub free_after : ℕ → ℕ → ℕ
free_after free bytes = (if nat_le (free + bytes) page_bytes then free else entries_at) + bytes

-- so many pages do entries of these sizes begin
abbrev pub pages_of : ℕ → List ℕ → ℕ
pages_of free [] = 0
pages_of free (bytes ∷ sizes) = (if begins_page free bytes then 1 else 0) + pages_of (free_after free bytes) sizes

-- the sizes of the entries of a change, whose block stands whole in the log or not
abbrev pub piece_size : Piece → ℕ
piece_size p = update_size p.count

abbrev pub change_sizes : Bool → Change → List ℕ
change_sizes imaged c = map piece_size (logged_pieces imaged c.block c.offset (length c.new))

-- which blocks stand whole in the log behind a change of this one: it does, and its rivals don't
abbrev pub imaged_after : Block → (Block → Bool) → Block → Bool
imaged_after c imaged b = if same_block b c then true else (if are_rivals c b then false else imaged b)

-- The sizes of the entries of these changes, and of a commit behind them. A change of no bytes logs nothing.
abbrev pub sizes_of : (Block → Bool) → List Change → List ℕ
sizes_of imaged [] = head_size ∷ []
sizes_of imaged (c ∷ changes) = if length c.new == 0 then sizes_of imaged changes else change_sizes (imaged c.block) c ++ sizes_of (imaged_after c.block imaged) changes

-- the pages that they begin
abbrev pub pages_needed : ℕ → (Block → Bool) → List Change → ℕ
pages_needed free imaged changes = pages_of free (sizes_of imaged changes)

-- a count that stays at its type's end
abbrev pub capped : ℕ → ℕ
capped n = min n (2 ^ 64 - 1)
