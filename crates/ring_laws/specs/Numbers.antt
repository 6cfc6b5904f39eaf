-- The pages of a session of the log are numbered: where each stands, in which lap, and the LSN of its first entry.
use Rattle.std.specs.Prelude.{ℕ, ◌+◌, ◌-◌, ◌/◌, ◌%◌, ◌≤◌, ◌<◌}
use Rattle.log_reading.specs.log_page.declared.places.LogPlace.{LogPlace}
use Rattle.log_reading.specs.log_page.Places.{first_page, page_lsn}

-- A session: where its log lies, and the lap of its first page, which has the number 0 and is the ring's first one.
pub record LogSession : Type 0 where
  pub place : LogPlace
  pub lap : ℕ

-- so many pages are in the ring
abbrev pub ring_size : LogSession → ℕ
ring_size s = s.place.pages - first_page

-- the page of the log where the session's page with this number stands
abbrev pub place_of_page : LogSession → ℕ → ℕ
place_of_page s n = first_page + n % ring_size s

-- its lap, which rises by one at each return to the ring's first page
abbrev pub lap_of_page : LogSession → ℕ → ℕ
lap_of_page s n = s.lap + n / ring_size s

-- the LSN of its first entry
abbrev pub lsn_of_page : LogSession → ℕ → ℕ
lsn_of_page s n = page_lsn s.place.pages (lap_of_page s n) (place_of_page s n)

-- it is a page of the ring
pub record IsInRing (place : LogPlace) (k : ℕ) : Type 0 where
  pub begun : first_page ≤ k
  pub inside : k < place.pages
