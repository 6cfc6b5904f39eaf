-- Runs that tell more bits than others.
use Rattle.std.specs.Prelude.{◌≡◌, ℕ, ◌/◌, ◌<◌, ◌≤◌, Bool, true, List}
use Rattle.map_change.specs.declared.change.BitRun.{BitRun}
use Rattle.map_change.specs.Reading.{TellTrue, tells}

-- the new runs tell what is so, if the old ones do; and each bit that these tell, and those from one place on, below another
pub record TellsMore (bits : ℕ → Bool) (from end : ℕ) (old new : List BitRun) : Type 0 where
  pub right : TellTrue bits old → TellTrue bits new
  pub kept : (i : ℕ) → tells old i ≡ true → tells new i ≡ true
  pub more : (i : ℕ) → from ≤ i → i < end → tells new i ≡ true

-- the same of those of the first so many bits that lie in this sector
pub record TellsSector (bits : ℕ → Bool) (count sector : ℕ) (old new : List BitRun) : Type 0 where
  pub right : TellTrue bits old → TellTrue bits new
  pub kept : (i : ℕ) → tells old i ≡ true → tells new i ≡ true
  pub more : (i : ℕ) → i < count → i / 4096 ≡ sector → tells new i ≡ true
