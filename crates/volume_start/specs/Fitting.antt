-- Whether a session may be written where the log of a volume was found.
use Rattle.std.specs.Prelude.{◌≡◌, ℕ, ◌+◌, ◌*◌, ◌^◌, ◌≤◌, nat_lt, Bool, true}
use Rattle.std.specs.List.{list_all}
use Rattle.log_page.specs.declared.places.Extent.{Extent}
use Rattle.log_page.specs.declared.places.LogPlace.{LogPlace}
use Rattle.log_reading.specs.Rings.{IsRingPlace}
use Rattle.mounted_states.specs.Ready.{HasRunsAlone}

-- the sectors of the run have numbers of 64 bits, and so has the one behind it
abbrev pub is_low : Extent → Bool
is_low e = nat_lt (e.first + e.sectors) (2 ^ 64)

-- On a device of so many sectors each page of the log may be written where it lies; its runs have the sectors of its pages, and no more, by numbers of 64 bits; and all sectors that are the log's or the volume's lie on the device.
pub record FitsStart (count : ℕ) (place : LogPlace) : Type 0 where
  pub low : list_all is_low place.runs ≡ true
  pub alone : HasRunsAlone place
  pub ring : IsRingPlace place
  pub inside : place.device ≤ count
  pub whole : 8 * place.clusters ≤ place.device
