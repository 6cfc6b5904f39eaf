-- Why a log has no room for so many pages more.
use Rattle.std.specs.Prelude.{◌⊎◌, ℕ, ◌+◌, ◌^◌, ◌<◌, ◌≤◌}
use Rattle.txn_laws.specs.log_page.Places.{sequence_bits}
use Rattle.device_blocks.specs.log_area.Areas.{LogAreaOf, lap_at, free_pages}
use Rattle.txn_core.specs.Tells.{HasLap}

-- they aren't free; or the next entry has no lap, or the last of these pages has none
abbrev pub LacksRoom : LogAreaOf → ℕ → Type 0
LacksRoom a n = (free_pages a < n) ⊎ ((HasLap a → ⊥) ⊎ (2 ^ sequence_bits a.pages ≤ lap_at a (a.sealed + n)))
