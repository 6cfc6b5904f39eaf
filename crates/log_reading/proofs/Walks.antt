-- A walk over the pages of the ring, by what a view knows of them.
use Rattle.std.proofs.Common.{◌≡◌, ℕ, suc, ◌+◌, ◌-◌, ◌<◌, ◌≤◌, true, List, [], Option, Some, None, Ok, Err, Result, refl, sym, ap, ◌∙◌, subst, arith}
use Rattle.std.specs.Prelude.{IfSome}
use Rattle.disk_model.proofs.host_base.Known.{both}
use Rattle.disk_model.specs.Content.{Content}
use Rattle.log_page.specs.log_model.declared.entry.Entry.{Entry}
use Rattle.log_page.specs.declared.places.LogPlace.{LogPlace}
use Rattle.log_page.specs.declared.fault.PageFault.TheVariants.{NotWhole, Foreign}
use Rattle.log_page.specs.declared.fault.PageFault.{PageFault}
use Rattle.log_page.specs.Places.{entries_at, lap_of, page_of, page_lsn, is_in_ring, page_after, lap_after}
use Rattle.log_page.specs.RecordPages.{Reading, is_whole_page, page_reading, AppendsPage}
use Rattle.log_page.specs.LiveLogs.{live_log, log_from, start_in_page}
use Rattle.log_page.proofs.Readings.{with_front}
use Rattle.log_page.proofs.Walking.{walked, walk_stopped, walk_ended, walk_round}
use Rattle.log_reading.specs.LogPages.{page_in}

-- the entries that were read, and those of the pages of the ring that are left, are the live log
abbrev pub IsRead : Content → LogPlace → ℕ → ℕ → ℕ → ℕ → ℕ → List Entry → Type 0
IsRead c place oldest passed lap page at entries =
    with_front entries (log_from place.pages (page_in c place) (place.pages - passed) lap page at) ≡ live_log place.pages (page_in c place) oldest

abbrev pub reading : List Entry → Option ℕ → Reading
reading entries foreign = record { entries = entries; foreign = foreign }

same_reading : (r : Reading) (entries : List Entry) (foreign : Option ℕ) → (r.foreign ≡ foreign) × (r.entries ≡ entries) → reading entries foreign ≡ r
same_reading r entries foreign (f, e) = sym (ap (λ (x : List Entry). reading x r.foreign) e ∙ ap (reading entries) f)

-- what a step over the page leaves
abbrev pub Steps : Content → LogPlace → ℕ → ℕ → ℕ → List Entry → List Entry → Result (Unit {0}) PageFault → Type 0
Steps c place lap page at old new =
    AppendsPage (is_whole_page place.pages (page_in c place page) (page_lsn place.pages lap page)) (page_reading (page_in c place page) (page_lsn place.pages lap page) at) old new

begins : (c : Content) (place : LogPlace) (oldest : ℕ) → is_in_ring place.pages oldest ≡ true → IsRead c place oldest 4 (lap_of place.pages oldest) (page_of place.pages oldest) (start_in_page place.pages oldest) []
unfolding live_log
begins c place oldest ring = rw ring refl

pub begun : (content : Option Content) (place : LogPlace) (oldest lap page at : ℕ) (entries : List Entry) → is_in_ring place.pages oldest ≡ true
    → lap ≡ lap_of place.pages oldest → page ≡ page_of place.pages oldest → at ≡ start_in_page place.pages oldest → entries ≡ []
    → IfSome content (λ c. IsRead c place oldest 4 lap page at entries)
begun None place oldest lap page at entries ring l p a e = tt
begun (Some c) place oldest lap page at entries ring l p a e = rw (l, p, a, e) (begins c place oldest ring)

module _ (place : LogPlace) (oldest passed lap page at : ℕ) (old new : List Entry) (more : passed < place.pages) where
  count : place.pages - passed ≡ suc (place.pages - (passed + 1))
  count = omega arith

  -- the same, with a page more
  split : (c : Content) → IsRead c place oldest passed lap page at old
      → with_front old (log_from place.pages (page_in c place) (suc (place.pages - (passed + 1))) lap page at) ≡ live_log place.pages (page_in c place) oldest
  split c read = sym (ap (λ (k : ℕ). with_front old (log_from place.pages (page_in c place) k lap page at)) count) ∙ read

  module _ (content now : Option Content) (same : now ≡ content) (result : Result (Unit {0}) PageFault) (step : IfSome now (λ c. Steps c place lap page at old new result)) (read : IfSome content (λ c. IsRead c place oldest passed lap page at old)) where
    here : (known : Option Content) → now ≡ known → IfSome known (λ c. Steps c place lap page at old new result)
    here known e = subst (λ (o : Option Content). IfSome o (λ c. Steps c place lap page at old new result)) e step

    made : (c : Content) (answer : Result (Unit {0}) PageFault) → result ≡ answer → Steps c place lap page at old new result → Steps c place lap page at old new answer
    made c answer e s = subst (Steps c place lap page at old new) e s

    pub goes_on : (next_lap next_page next_at : ℕ) → next_lap ≡ lap_after place.pages lap page → next_page ≡ page_after place.pages page → next_at ≡ entries_at → result ≡ Ok tt
        → IfSome content (λ c. IsRead c place oldest (passed + 1) next_lap next_page next_at new)
    goes_on next_lap next_page next_at l p a is =
        both content (λ c. Steps c place lap page at old new result) (λ c. IsRead c place oldest passed lap page at old) (λ c. IsRead c place oldest (passed + 1) next_lap next_page next_at new)
        (λ c s r. rw (l, p, a) (walked place.pages (page_in c place) (place.pages - (passed + 1)) lap page at old new _ (made c (Ok tt) is s) (split c r)))
        (here content same) read

    pub stops : (fault : PageFault) (lsn said : ℕ) → result ≡ Err fault → fault ≡ Foreign lsn → said ≡ lsn → IfSome content (λ c. reading new (Some said) ≡ live_log place.pages (page_in c place) oldest)
    stops fault lsn said is foreign e =
        rw e
        (both content (λ c. Steps c place lap page at old new result) (λ c. IsRead c place oldest passed lap page at old) (λ c. reading new (Some lsn) ≡ live_log place.pages (page_in c place) oldest)
        (λ c s r. same_reading _ _ _ (walk_stopped place.pages (page_in c place) (place.pages - (passed + 1)) lap page at old new _ lsn (made c (Err (Foreign lsn)) (is ∙ ap Err foreign) s) (split c r)))
        (here content same) read)

    pub ends : (fault : PageFault) → result ≡ Err fault → fault ≡ NotWhole → IfSome content (λ c. reading new None ≡ live_log place.pages (page_in c place) oldest)
    ends fault is torn =
        both content (λ c. Steps c place lap page at old new result) (λ c. IsRead c place oldest passed lap page at old) (λ c. reading new None ≡ live_log place.pages (page_in c place) oldest)
        (λ c s r. same_reading _ _ _ (walk_ended place.pages (page_in c place) (place.pages - (passed + 1)) lap page at old new _ (made c (Err NotWhole) (is ∙ ap Err torn) s) (split c r)))
        (here content same) read

-- the walk went once round
pub round : (content : Option Content) (place : LogPlace) (oldest passed lap page at : ℕ) (entries : List Entry) → place.pages ≤ passed
    → IfSome content (λ c. IsRead c place oldest passed lap page at entries) → IfSome content (λ c. reading entries None ≡ live_log place.pages (page_in c place) oldest)
round None place oldest passed lap page at entries past read = tt
round (Some c) place oldest passed lap page at entries past read =
    let none : place.pages - passed ≡ 0 = omega arith in
    same_reading _ _ _ (walk_round place.pages (page_in c place) lap page at entries _ (sym (ap (λ (k : ℕ). with_front entries (log_from place.pages (page_in c place) k lap page at)) none) ∙ read))
