-- The sectors of a log's pages and those of the blocks by which it is found, and stretches of sectors by which a block is tried against them.
use Rattle.std.specs.Prelude.{ℕ, ◌+◌, ◌-◌, ◌*◌, ◌/◌, ◌^◌, ◌<◌, ◌≡◌, ◌&&◌, ◌||◌, nat_le, nat_lt, max, min, Bool, false, if◌then◌else◌, List, [], ◌∷◌, ◌++◌, Option, Some, None}
use Rattle.std.specs.List.{list_any, range_with_len}
use Rattle.std.specs.List.Sorted.{IsNonDecreasingBy}
use Rattle.log_reading.specs.disk_model.declared.block.Block.{Block}
use Rattle.log_reading.specs.disk_model.Sectors.{sectors, overlap}
use Rattle.log_reading.specs.log_page.declared.places.Extent.{Extent}
use Rattle.log_reading.specs.log_page.declared.places.LogPlace.{LogPlace}
use Rattle.log_reading.specs.LogPages.{log_sector}
use Rattle.log_recovery.specs.declared.own.Stretch.{Stretch}

-- the block has this sector
abbrev pub is_in_block : Block → Option ℕ → Bool
is_in_block b (Some s) = nat_le b.first s && nat_lt s (b.first + sectors b.kind)
is_in_block b None = false

-- it has a sector in which a page of the log lies
abbrev pub is_in_log : LogPlace → Block → Bool
is_in_log place b = list_any (λ n. is_in_block b (log_sector place n)) (range_with_len 0 (8 * place.pages))

-- it has a sector of the log or of one of the blocks by which the log is found
abbrev pub is_own : LogPlace → List Block → Block → Bool
is_own place kept b = is_in_log place b || list_any (overlap b) kept

-- ---- how a block is tried

-- so many sectors from this one on that lie on a device, if there are any
abbrev pub stretch_of : ℕ → ℕ → ℕ → List Stretch
stretch_of device first count = if nat_lt first (min (first + count) device) then record { first = first; reach = min (first + count) device - 1 } ∷ [] else []

-- those of the first sectors of these runs, so many in all
abbrev pub stretches_in : ℕ → ℕ → List Extent → List Stretch
stretches_in device left [] = []
stretches_in device left (run ∷ runs) = stretch_of device run.first (min run.sectors left) ++ stretches_in device (left - min run.sectors left) runs

-- the sectors of a block, up to the last that has a number of 64 bits
abbrev pub stretch_at : Block → Stretch
stretch_at b = record { first = b.first; reach = min (b.first + (sectors b.kind - 1)) (2 ^ 64 - 1) }

-- how many sectors of a log count
abbrev pub counted : LogPlace → ℕ
counted place = min (8 * place.pages) ((place.initialised + 511) / 512)

-- each reaches as far as any of those before it
abbrev pub with_reach : ℕ → List Stretch → List Stretch
with_reach most [] = []
with_reach most (s ∷ stretches) = record { first = s.first; reach = max most s.reach } ∷ with_reach (max most s.reach) stretches

-- the stretch begins before the block ends, and reaches to its first sector or further
abbrev pub meets : Block → Stretch → Bool
meets b s = nat_lt (s.first - b.first) (sectors b.kind) && nat_le b.first s.reach

-- they begin and reach further and further
pub record AreSorted (stretches : List Stretch) : Type 0 where
  pub rising : IsNonDecreasingBy (λ (s : Stretch). s.first) stretches
  pub reaching : IsNonDecreasingBy (λ (s : Stretch). s.reach) stretches

-- a block meets one of them where this is true of it
abbrev pub StandFor : List Stretch → (Block → Bool) → Type 0
StandFor stretches own = (b : Block) → b.first < 2 ^ 64 → list_any (meets b) stretches ≡ own b
