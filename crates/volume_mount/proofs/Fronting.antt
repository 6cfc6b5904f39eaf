-- The first sectors of a log that lie on its device.
use Rattle.std.proofs.Common.{◌≡◌, ℕ, ◌+◌, ◌-◌, ◌*◌, ◌<◌, ◌≤◌, Bool, true, false, List, ◌∷◌, Option, Some, None, min, sym, ap, ◌∙◌, inl, inr, arith, drop, length, get_or}
use Rattle.std.specs.Prelude.{is_some, nat_lt, if◌then◌else◌}
use Rattle.std.specs.Int.{div_ceil}
use Rattle.std.proofs.lemmas.List.{drop_all, drop_more}
use Rattle.std.proofs.lemmas.Bool.{cases_lt}
use Rattle.std.proofs.lemmas.Grind.{div_ceil_times}
use Rattle.image_read.specs.log_page.declared.places.Extent.{Extent}
use Rattle.image_read.specs.log_page.declared.places.LogPlace.{LogPlace}
use Rattle.image_read.specs.log_reading.LogPages.{sector_in, sector_below}
use Rattle.image_read.proofs.stream_rules.Failing.{failing_none, failing_some}
use Rattle.volume_mount.specs.Fronts.{LieInFront}
use Rattle.volume_mount.specs.Mounts.{is_there, begun_sectors, or_all, front_sectors}

-- ---- tests of numbers

lt_true : (a b : ℕ) → a < b → nat_lt a b ≡ true
lt_true a b lt = grind arith

lt_false : (a b : ℕ) → b ≤ a → nat_lt a b ≡ false
lt_false a b le = grind arith

-- ---- runs

-- a sector lies on a device of so many
abbrev pub is_on : ℕ → List Extent → ℕ → Bool
is_on device runs n = is_some (sector_below device (sector_in runs n))

-- the sectors from this number on are those of the runs that are left
abbrev pub IsRest : List Extent → List Extent → ℕ → Type 0
IsRest runs rest count = (k : ℕ) → sector_in runs (count + k) ≡ sector_in rest k

abbrev pub LieBefore : ℕ → List Extent → ℕ → Type 0
LieBefore device runs count = (n : ℕ) → n < count → is_on device runs n ≡ true

in_run : (device k : ℕ) (r : Extent) (rest : List Extent) → k < r.sectors → k < device - r.first → is_on device (r ∷ rest) k ≡ true
in_run device k r rest inside below =
    ap (λ (b : Bool). is_some (sector_below device (if b then Some (r.first + k) else sector_in rest (k - r.sectors)))) (lt_true k r.sectors inside)
    ∙ ap (λ (b : Bool). is_some (if b then Some (r.first + k) else None)) (lt_true (r.first + k) device (omega arith))

past_device : (device k : ℕ) (r : Extent) (rest : List Extent) → k < r.sectors → device - r.first ≤ k → is_on device (r ∷ rest) k ≡ false
past_device device k r rest inside past =
    ap (λ (b : Bool). is_some (sector_below device (if b then Some (r.first + k) else sector_in rest (k - r.sectors)))) (lt_true k r.sectors inside)
    ∙ ap (λ (b : Bool). is_some (if b then Some (r.first + k) else None)) (lt_false (r.first + k) device (omega arith))

behind_run : (k : ℕ) (r : Extent) (rest : List Extent) → sector_in (r ∷ rest) (r.sectors + k) ≡ sector_in rest k
behind_run k r rest =
    ap (λ (b : Bool). if b then Some (r.first + (r.sectors + k)) else sector_in rest (r.sectors + k - r.sectors)) (lt_false (r.sectors + k) r.sectors (omega arith))
    ∙ ap (λ (n : ℕ). sector_in rest n) (omega arith)

pub none_yet : (device : ℕ) (runs : List Extent) → LieBefore device runs 0
none_yet device runs n lt = absurd (omega (arith, lt))

pub from_front : (runs : List Extent) → IsRest runs runs 0
from_front runs k = ap (λ (m : ℕ). sector_in runs m) (omega arith)

-- more sectors of the run that comes next
pub with_run : (device count more : ℕ) (runs : List Extent) (r : Extent) (rest : List Extent) → IsRest runs (r ∷ rest) count → LieBefore device runs count → more ≤ min (device - r.first) r.sectors → LieBefore device runs (count + more)
with_run device count more runs r rest is before few n lt =
    elim (cases_lt n count) [
      | inl early ↦ before n early
      | inr late ↦ (let at : count + (n - count) ≡ n = omega (arith, late) in
          ap (λ (m : ℕ). is_on device runs m) (sym at) ∙ ap (λ (o : Option ℕ). is_some (sector_below device o)) (is (n - count))
          ∙ in_run device (n - count) r rest (grind (arith, few, lt, late)) (grind (arith, few, lt, late)))
    ]

-- the runs behind it are left
pub next_run : (count : ℕ) (runs : List Extent) (r : Extent) (rest : List Extent) → IsRest runs (r ∷ rest) count → IsRest runs rest (count + r.sectors)
next_run count runs r rest is k = ap (λ (m : ℕ). sector_in runs m) (omega arith) ∙ is (r.sectors + k) ∙ behind_run k r rest

-- it ends where the run goes past the device
pub ends_here : (device count more : ℕ) (runs : List Extent) (r : Extent) (rest : List Extent) → IsRest runs (r ∷ rest) count → more ≡ min (device - r.first) r.sectors → more < r.sectors → is_on device runs (count + more) ≡ false
ends_here device count more runs r rest is few lt =
    ap (λ (o : Option ℕ). is_some (sector_below device o)) (is more) ∙ past_device device more r rest lt (grind (arith, few, lt))

-- it ends behind the last run
pub ends_behind : (device count : ℕ) (runs : List Extent) (index : ℕ) → length runs ≤ index → IsRest runs (drop index runs) count → is_on device runs count ≡ false
ends_behind device count runs index past is =
    ap (λ (m : ℕ). is_on device runs m) (omega arith) ∙ ap (λ (o : Option ℕ). is_some (sector_below device o)) (is 0)
    ∙ ap (λ (rest : List Extent). is_some (sector_below device (sector_in rest 0))) (drop_all index runs past)

-- the run at this place is the first of those that are left
pub taken_run : (runs : List Extent) (index : ℕ) (d : Extent) (count : ℕ) → index < length runs → IsRest runs (drop index runs) count → IsRest runs (get_or runs index d ∷ drop (index + 1) runs) count
taken_run runs index d count inside is k = is k ∙ ap (λ (rest : List Extent). sector_in rest k) (drop_more runs index d inside)

-- all of it lies on the device
pub all_run : (runs : List Extent) (r : Extent) (rest : List Extent) (count more device : ℕ) → IsRest runs (r ∷ rest) count → more ≡ min (device - r.first) r.sectors → r.sectors ≤ more → IsRest runs rest (count + more)
all_run runs r rest count more device is few most k =
    ap (λ (m : ℕ). sector_in runs (count + m + k)) (omega (arith, few, most)) ∙ next_run count runs r rest is k

-- ---- the log

begins_below : (a n : ℕ) → n < div_ceil a 512 → 512 * n < a
begins_below a n lt = grind (arith, div_ceil_times a 512 (omega arith), lt)

there_as : (place : LogPlace) (n : ℕ) → n < begun_sectors place → is_there place n ≡ is_on place.device place.runs n
there_as place n lt = ap (λ (b : Bool). is_some (if b then sector_below place.device (sector_in place.runs n) else None)) (lt_true (512 * n) place.initialised (begins_below place.initialised n lt))

pub front_is : (place : LogPlace) (count : ℕ) → LieInFront place.device (begun_sectors place) place.runs count → count ≡ front_sectors place
unfolding front_sectors
front_is place count is =
    elim (cases_lt count (begun_sectors place)) [
      | inl early ↦ ap (or_all (begun_sectors place)) (failing_some (is_there place) (begun_sectors place) count early (there_as place count early ∙ is.ends early) (λ y lt. there_as place y (omega (arith, lt, early)) ∙ is.there y lt))
      | inr late ↦ (let all : count ≡ begun_sectors place = omega (arith, is.few, late) in
          all ∙ ap (or_all (begun_sectors place)) (failing_none (is_there place) (begun_sectors place) (λ y lt. there_as place y lt ∙ is.there y (omega (arith, lt, late)))))
    ]
