-- Bytes that a plan puts into a stream: into each of its sectors those that fall there.
use Rattle.std.specs.Prelude.{◌≡◌, ℕ, zero, suc, ◌+◌, ◌-◌, ◌*◌, ◌/◌, ◌≤◌, ◌==◌, Bool, nat_le, if◌then◌else◌, List, length, Option, Some, None}
use Rattle.stream_map.specs.disk_model.declared.block.Block.{Block}
use Rattle.stream_map.specs.disk_model.declared.block.BlockKind.TheVariants.{Plain}
use Rattle.stream_map.specs.disk_model.Bytes.{part, written}
use Rattle.stream_map.specs.disk_model.Content.{Content}
use Rattle.stream_map.specs.record_model.declared.runs.Run.{Run}
use Rattle.stream_map.specs.state_model.Streams.{block_at}
use Rattle.plan_draft.specs.declared.touched.Touched.{Touched}
use Rattle.plan_draft.specs.Touching.{bodies_of, touch}
use Rattle.plan_draft.specs.Writing.{present}

-- where bytes begin in a sector of the stream that begin at this place of it, or before the sector
abbrev pub offset_in : ℕ → ℕ → ℕ
offset_in at s = at - 512 * s

-- those of them that fall there
abbrev pub bytes_in : ℕ → ℕ → List ℕ → List ℕ
bytes_in at s bytes = part (512 * s - at) (512 - (at - 512 * s)) bytes

-- these bytes in the block from this place on, over what it has; where there is no block, they go nowhere
abbrev pub touch_part : Content → Option Block → Bool → ℕ → List ℕ → List Touched → List Touched
touch_part c None fresh offset bytes touched = touched
touch_part c (Some b) fresh offset bytes touched = touch b fresh (written offset bytes (present c (bodies_of touched) b fresh)) (c b) touched

-- what falls into this sector put there; sectors from a number on are fresh
abbrev pub touch_sector : Content → ℕ → List Run → ℕ → ℕ → List ℕ → ℕ → List Touched → List Touched
touch_sector c per runs fresh at bytes s touched = touch_part c (block_at per runs Plain s) (nat_le fresh s) (offset_in at s) (bytes_in at s bytes) touched

-- the same of so many sectors from the first one on
unfoldable pub touch_sectors : Content → ℕ → List Run → ℕ → ℕ → List ℕ → ℕ → ℕ → List Touched → List Touched
touch_sectors c per runs fresh at bytes first zero touched = touched
touch_sectors c per runs fresh at bytes first (suc n) touched = touch_sector c per runs fresh at bytes (first + n) (touch_sectors c per runs fresh at bytes first n touched)

-- the first sector, and how many there are up to the one in which the last byte falls
abbrev pub first_sector : ℕ → ℕ
first_sector at = at / 512

abbrev pub sector_count : ℕ → ℕ → ℕ
sector_count at n = if n == 0 then 0 else (at + n + 511) / 512 - at / 512

-- all bytes put
abbrev pub touch_bytes : Content → ℕ → List Run → ℕ → ℕ → List ℕ → List Touched → List Touched
touch_bytes c per runs fresh at bytes touched = touch_sectors c per runs fresh at bytes (first_sector at) (sector_count at (length bytes)) touched

-- those of some sectors from the first one on put
abbrev pub IsFrontOf : Content → ℕ → List Run → ℕ → ℕ → List ℕ → List Touched → List Touched → Type 0
IsFrontOf c per runs fresh at bytes old new = (n : ℕ) × ((n ≤ sector_count at (length bytes)) × (new ≡ touch_sectors c per runs fresh at bytes (first_sector at) n old))
