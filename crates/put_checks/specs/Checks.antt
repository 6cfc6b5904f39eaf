-- What a store asks of changes, tried by where their blocks lie.
use Rattle.std.specs.Prelude.{ℕ, ◌+◌, ◌-◌, ◌*◌, ◌/◌, ◌^◌, ◌==◌, ◌&&◌, not, min, nat_le, nat_lt, Bool, true, List, [], ◌∷◌, length}
use Rattle.std.specs.List.{list_any, list_all}
use Rattle.disk_model.specs.declared.block.Block.{Block}
use Rattle.disk_model.specs.declared.block.Change.{Change}
use Rattle.disk_model.specs.Sectors.{sectors, overlap}
use Rattle.log_model.specs.Logs.{is_in_grid}
use Rattle.log_page.specs.declared.places.Extent.{Extent}
use Rattle.log_page.specs.declared.places.LogPlace.{LogPlace}

-- the block shares a sector with this run of a log; an empty run has none
abbrev pub meets_run : Block → Extent → Bool
meets_run b e = nat_lt 0 e.sectors && (nat_lt b.first (e.first + e.sectors) && nat_lt e.first (b.first + sectors b.kind))

-- it lies in the grid, begins in the volume, and lies on the device
abbrev pub lies_inside : LogPlace → Block → Bool
lies_inside place b = is_in_grid b && (nat_lt (b.first / 8) place.clusters && nat_le (b.first + sectors b.kind) place.device)

-- it shares no sector with the runs of the log, nor with a block by which the log is found
abbrev pub lies_apart : LogPlace → List Block → Block → Bool
lies_apart place found b = not (list_any (meets_run b) place.runs) && not (list_any (overlap b) found)

-- the change brings some bytes, as many as old ones, inside the block's body
abbrev pub fits_some : Change → Bool
fits_some x = nat_lt 0 (length x.new) && ((length x.new == length x.old) && nat_le (x.offset + length x.new) (512 * sectors x.block.kind))

-- such a change
abbrev pub may_be_logged : LogPlace → List Block → Change → Bool
may_be_logged place found x = lies_inside place x.block && (lies_apart place found x.block && fits_some x)

-- the sector behind a block, up to the last that has a number of 64 bits
abbrev pub end_of : Block → ℕ
end_of b = min (b.first + sectors b.kind) (2 ^ 64 - 1)

-- no block begins before the one before it ends, nor the first before this sector
unfoldable pub are_in_row : ℕ → List Change → Bool
are_in_row from [] = true
are_in_row from (x ∷ xs) = nat_le from x.block.first && are_in_row (end_of x.block) xs

-- a store whose log lies so, and is found by these blocks, may be given the changes
unfoldable pub may_put : LogPlace → List Block → List Change → Bool
may_put place found xs = list_all (may_be_logged place found) xs && are_in_row 0 xs
