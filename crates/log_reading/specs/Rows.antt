-- Whether the pages of a log lie in rows, by a walk over its runs.
use Rattle.std.specs.Prelude.{ℕ, ◌+◌, ◌-◌, ◌*◌, ◌%◌, ◌^◌, ◌==◌, ◌&&◌, nat_le, nat_lt, min, Bool, true, false, if◌then◌else◌, List, [], ◌∷◌}
use Rattle.log_page.specs.declared.places.Extent.{Extent}
use Rattle.log_page.specs.declared.places.LogPlace.{LogPlace}

-- a run of so many sectors in front of others, if it has any
abbrev pub with_run : ℕ → ℕ → List Extent → List Extent
with_run first sectors runs = if nat_lt 0 sectors then record { first = first; sectors = sectors } ∷ runs else runs

-- the sectors of the runs up to so many, without the empty runs
abbrev pub front_runs : List Extent → ℕ → List Extent
front_runs [] left = []
front_runs (run ∷ runs) left = with_run run.first (min run.sectors left) (front_runs runs (left - min run.sectors left))

-- it begins at a cluster where a page does, and else where the run before it ends
abbrev pub lies_next : ℕ → ℕ → ℕ → Bool
lies_next left end first = if left % 8 == 0 then first % 8 == 0 else first == end

-- a run below a limit, where so many sectors of whole pages are left
unfoldable pub goes_on : ℕ → ℕ → ℕ → Extent → Bool
goes_on limit left end run = nat_le run.sectors left && lies_next left end run.first && nat_le run.first limit && nat_le run.sectors (limit - run.first)

-- the runs are whole pages, so many sectors in all
abbrev pub are_whole : ℕ → ℕ → ℕ → List Extent → Bool
are_whole limit left end [] = left == 0
are_whole limit left end (run ∷ runs) = if goes_on limit left end run then are_whole limit (left - run.sectors) (run.first + run.sectors) runs else false

-- no run begins before the end of the one before it
abbrev pub are_apart : ℕ → ℕ → List Extent → Bool
are_apart first sectors [] = true
are_apart first sectors (run ∷ runs) = if nat_lt (run.first - first) sectors then false else are_apart run.first run.sectors runs

-- the log has pages of a ring, fewer than 2^52 in all, and they are initialised
abbrev pub has_ring : LogPlace → Bool
has_ring place = nat_lt 4 place.pages && nat_lt place.pages (2 ^ 52) && nat_le (4096 * place.pages) place.initialised
