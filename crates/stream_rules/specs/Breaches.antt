-- The least cluster of places at which a rule is broken.
use Rattle.std.specs.Prelude.{◌≡◌, ℕ, ◌-◌, ◌<◌, ◌≤◌, Bool, true, false, not, nat_lt, if◌then◌else◌, List, length, find, unwrap_or}
use Rattle.std.specs.List.{range_with_len}
use Rattle.bit_set.specs.Bits.{bit}
use Rattle.stream_rules.specs.declared.places.Place.{Place}
use Rattle.stream_rules.specs.Places.{times}

-- the least cluster that two of the places have
pub record IsLeastShared (places : List Place) (x : ℕ) : Type 0 where
  pub shared : 1 < times places x
  pub least : (y : ℕ) → y < x → times places y ≤ 1

-- the least cluster that a place has and whose bit is clear
pub record IsLeastUnmarked (bits : List Bool) (places : List Place) (x : ℕ) : Type 0 where
  pub owned : 0 < times places x
  pub clear : bit bits x ≡ false
  pub least : (y : ℕ) → y < x → 0 < times places y → bit bits y ≡ true

-- the least clear bit from this one on, or the count of the bits where there is none
unfoldable pub next_clear : List Bool → ℕ → ℕ
next_clear bits from = unwrap_or (find (λ i. not (bit bits i)) (range_with_len from (length bits - from))) (length bits)

-- the least clear bit from a first cluster on, where this one is the least from no later one on
abbrev pub clear_from : List Bool → ℕ → ℕ → ℕ
clear_from bits clear first = if nat_lt clear first then next_clear bits first else clear
