-- Which lists of UTF-16 units are names.
use Rattle.std.specs.Prelude.{◌≢◌, ℕ, ◌^◌, ◌<◌, ◌≤◌, List, length, All}

-- a UTF-16 unit other than 0 and `/`
abbrev pub IsNameUnit : ℕ → Type 0
IsNameUnit unit = (unit < 2 ^ 16) × (unit ≢ 0) × (unit ≢ 0x2F)

-- 1 to 255 units, each of which a name may hold
pub record IsName (units : List ℕ) : Type 0 where
  pub some : 0 < length units
  pub within : length units ≤ 255
  pub lawful : All IsNameUnit units
