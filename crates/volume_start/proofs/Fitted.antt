-- A log that fits has sectors with numbers of 64 bits.
use Rattle.std.proofs.Common.{◌≡◌, ℕ, ◌+◌, ◌^◌, true, List, [], ◌∷◌, arith}
use Rattle.std.specs.List.{AllByRecursion, list_all}
use Rattle.std.proofs.lemmas.Bool.{and_parts, ltb-true}
use Rattle.std.proofs.lemmas.List.Elements.{All-from_recursion}
use Rattle.log_page.specs.declared.places.Extent.{Extent}
use Rattle.log_page.specs.declared.places.LogPlace.{LogPlace}
use Rattle.log_reading.specs.LogPages.{IsSmall, IsLogPlace}
use Rattle.volume_start.specs.Fitting.{is_low, FitsStart}

small_runs : (runs : List Extent) → list_all is_low runs ≡ true → AllByRecursion IsSmall runs
small_runs [] low = tt
small_runs (e ∷ runs) low =
    let parts = and_parts (is_low e) (list_all is_low runs) low in
    let below = ltb-true (e.first + e.sectors) (2 ^ 64) parts.0 in
    (omega (arith, below), small_runs runs parts.1)

pub log_place : (count : ℕ) (place : LogPlace) → FitsStart count place → IsLogPlace place
log_place count place fits = record { runs = All-from_recursion IsSmall place.runs (small_runs place.runs fits.low); pages = fits.ring.small }
