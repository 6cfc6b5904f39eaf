-- The write of a restart page leaves restart pages that the disk holds.
use Rattle.std.proofs.Common.{◌≡◌, ◌≢◌, ◌⊎◌, ℕ, zero, suc, ◌+◌, ◌-◌, ◌^◌, ◌<◌, ◌≤◌, Bool, true, false, cond, List, ◌∷◌, length, Option, Some, None, refl, sym, ap, ◌∙◌, subst, inl, inr, arith}
use Rattle.std.specs.Prelude.{Contains}
use Rattle.std.proofs.lemmas.Bool.{cases_Bool, cases_eq, cases_lt}
use Rattle.log_reading.specs.disk_model.Sectors.{sector_of}
use Rattle.store_model.proofs.fixup_record.Protected.{length-protected}
use Rattle.log_reading.specs.log_page.declared.places.LogPlace.{LogPlace}
use Rattle.log_reading.specs.log_page.declared.restart.Restart.{Restart}
use Rattle.log_reading.specs.log_page.Restarts.{is_whole_restart, whole_one, restart_spelling, is_blank}
use Rattle.log_laws.proofs.log_page.Spelled.{length-restart_spelling}
use Rattle.log_laws.proofs.log_page.ReadAgain.{read_again}
use Rattle.store_model.specs.sector_device.Sectors.{sector_in, sectors_of}
use Rattle.store_model.specs.sector_device.WholeSectors.{length-sector_in, length-sectors_of}
use Rattle.store_model.specs.sector_device.Disks.{Disk, MayHold, newest, seen, is_within, put, IsBetween}
use Rattle.store_model.proofs.sector_device.Images.{between_holds}
use Rattle.store_model.specs.Geometry.{SectorBytes}
use Rattle.store_model.specs.Rings.{PagePlaces, newest_page, PlaceMayHold, Restarts, restart_place}
use Rattle.store_model.proofs.Known.{is_in}
use Rattle.ring_laws.specs.PageBytes.{page_sector, raw_page, CanLeavePage, IsStill, IsSizedPage, AreAlike, spelled_restart}
use Rattle.ring_laws.specs.RestartPages.{RestartFields, IsBelow, said_restart, ShowsRestart, IsRestartBegun, HoldsRestarts, restart_written, restart_sent}
use Rattle.ring_laws.specs.Laws.{restart_put, HoldsRestartsAfter}
use Rattle.ring_laws.proofs.LogSectors.{kept_by_page}
use Rattle.ring_laws.proofs.Mixing.{sector_of_bytes, page_is, ends_by, mixed}
use Rattle.ring_laws.proofs.RingFacts.{alike_holds, alike_page, alike_image, alike_still, seen_left, with_page, with_own, with_other, some_none, some_same, true_false}
use Rattle.ring_laws.proofs.RestartFacts.{other_place, place_below, not_whole, restart_fixups, restart_fails, restart_is_written}

some_restart : (a b : Restart) → ◌≡◌ {A = Option Restart} (Some a) (Some b) → a ≡ b
some_restart a b e = cc

module _ (place : LogPlace) (q : Restarts) (fields : RestartFields) (disk now : Disk) (word : ℕ) (h : HoldsRestarts place q (Some word) fields disk) where
  abbrev pub k0 : ℕ
  k0 = restart_place (suc q.sure)

  abbrev pub b : IsRestartBegun place q fields disk word
  b = (h.begun word refl).1

  pub early : q.done ≡ false
  early = (h.begun word refl).0

  abbrev new : List ℕ
  new = spelled_restart b.next word

  small : word < 2 ^ 16
  small = omega (arith, b.picked.below)

  pub length-new : length new ≡ 4096
  unfolding spelled_restart
  length-new = length-protected (restart_spelling b.next) word ∙ length-restart_spelling b.next

  pub new_says : said_restart new ≡ fields (suc q.sure)
  unfolding spelled_restart
  new_says = ap whole_one (read_again b.next word b.fits b.ranges small) ∙ sym b.said

  eight : length (sectors_of new) ≡ 8
  eight = length-sectors_of new ∙ (let size = length-new in omega arith)

  inside : (k : ℕ) → k < 2 → k < place.pages
  inside k few = omega (arith, few, h.lies.ring)

  -- the new page shows its number
  pub new_shows : (raw : List ℕ) → raw ≡ new → ShowsRestart fields q.sure raw (Some (suc q.sure))
  new_shows raw is = record {
    is = λ n e le. ap said_restart is ∙ new_says ∙ ap fields (some_same (suc q.sure) n e);
    below = λ old. absurd (let lt : suc q.sure < q.sure = old (suc q.sure) refl in omega (arith, lt));
  }

  -- and another one none
  none_shows : (raw : List ℕ) → IsBelow (said_restart raw) (fields q.sure) → ShowsRestart fields q.sure raw None
  none_shows raw below = record { is = λ n e le. absurd (some_none n (sym e)); below = λ old. below }

  module _ (between : IsBetween disk (restart_put place q b.next word disk) now) where
    pub held_now : (i : ℕ) (value : List ℕ) → i < 8 → MayHold now (page_sector place k0 + i) value → (value ≡ sector_in new i) ⊎ (value ≡ sector_in b.old i)
    held_now i value few holds = elim (between_holds (page_sector place k0) (page_sector place k0 + i) (sectors_of new) disk now value between holds) [
      | inl was ↦ b.held i value few was
      | inr put ↦ inl (put.2 ∙ ap (sector_of (sectors_of new)) (let e : page_sector place k0 + i - page_sector place k0 ≡ i = omega arith in e) ∙ sector_of_bytes new i length-new few)
    ]

    other : (k : ℕ) → k < 2 → k ≢ k0 → AreAlike place k (suc k) disk now
    other k few apart = kept_by_page place k (suc k) k0 (sectors_of new) disk now h.lies (omega (arith, inside k few)) (inside k0 (place_below (suc q.sure))) eight (away k apart) between
      where
        away : (k : ℕ) → k ≢ k0 → (k0 < k) ⊎ (suc k ≤ k0)
        away k apart = elim (cases_lt k0 k) [ inl lt ↦ inl lt | inr le ↦ inr (omega (arith, le, apart)) ]

    -- ---- images of the page

    Shown : SectorBytes → Type 0
    Shown image = (x : Option ℕ) × ((x ≡ Some (suc q.sure)) ⊎ (x ≡ None)) × ShowsRestart fields q.sure (raw_page place image k0) x

    shown : (image : SectorBytes) → CanLeavePage place now image k0 → Shown image
    unfolding spelled_restart Shown
    shown image left = elim (cases_Bool (is_whole_restart (raw_page place image k0))) [
      | inr torn ↦ (None, inr refl, none_shows (raw_page place image k0) (subst (λ (o : Option Restart). IsBelow o (fields q.sure)) (sym (not_whole (raw_page place image k0) torn)) tt))
      | inl whole ↦ elim (mixed place image k0 b.old new word b.old_size length-new b.picked (λ sector few. ends_by (restart_spelling b.next) word sector (length-restart_spelling b.next) small few)
          (λ i few. held_now i (image (page_sector place k0 + i)) few (left i few)) (restart_fixups (raw_page place image k0) whole)) [
            | inl is_new ↦ (Some (suc q.sure), inl refl, new_shows (raw_page place image k0) is_new)
            | inr is_old ↦ (None, inr refl, none_shows (raw_page place image k0) (subst (λ (raw : List ℕ). IsBelow (said_restart raw) (fields q.sure)) (sym is_old) b.older))
          ]
    ]

    -- ---- the restart pages after it, where a read gives what this number says

    module _ (x : Option ℕ) (whole : (x ≡ Some (suc q.sure)) ⊎ (x ≡ None)) (shows : ShowsRestart fields q.sure (raw_page place (seen now) k0) x) where
      abbrev pub after : PagePlaces
      after = with_page q.places k0 (suc q.sure) x

      first : (y : Option ℕ) → (y ≡ Some (suc q.sure)) ⊎ (y ≡ None) → PlaceMayHold after k0 y
      first y (inl is) = inr (subst (λ (vs : List (Option ℕ)). Contains vs y) (sym (with_own q.places k0 (suc q.sure) x)) (2, omega arith, sym is))
      first y (inr is) = inr (subst (λ (vs : List (Option ℕ)). Contains vs y) (sym (with_own q.places k0 (suc q.sure) x)) (1, omega arith, sym is))

      kept : (k : ℕ) (y : Option ℕ) → k ≢ k0 → PlaceMayHold q.places k y → PlaceMayHold after k y
      kept k y apart (inl e) = inl e
      kept k y apart (inr m) = inr (subst (λ (vs : List (Option ℕ)). Contains vs y) (sym (with_other q.places k0 (suc q.sure) k x apart)) m)

      pub leaves_now : (k : ℕ) (image : SectorBytes) → k < 2 → CanLeavePage place now image k → (y : Option ℕ) × PlaceMayHold after k y × ShowsRestart fields q.sure (raw_page place image k) y
      unfolding Shown
      leaves_now k image few left = elim (cases_eq k k0) [
        | inl same ↦
            subst (λ (j : ℕ). (y : Option ℕ) × PlaceMayHold after j y × ShowsRestart fields q.sure (raw_page place image j) y) (sym same)
            (let it = shown image (subst (λ (j : ℕ). CanLeavePage place now image j) same left) in (it.0, first it.0 it.1, it.2))
        | inr apart ↦ (let old = h.leaves k image few (alike_image place k (suc k) disk now (other k few apart) k (omega arith) (omega arith) image left) in (old.0, kept k old.0 apart old.1, old.2))
      ]

      pub reads_now : (k : ℕ) → k < 2 → ShowsRestart fields q.sure (raw_page place (seen now) k) (newest_page (after.written k) (after.durable k))
      reads_now k few = elim (cases_eq k k0) [
        | inl same ↦
            subst (λ (j : ℕ). ShowsRestart fields q.sure (raw_page place (seen now) j) (newest_page (after.written j) (after.durable j))) (sym same)
            (subst (λ (vs : List (Option ℕ)). ShowsRestart fields q.sure (raw_page place (seen now) k0) (newest_page vs (after.durable k0))) (sym (with_own q.places k0 (suc q.sure) x)) shows)
        | inr apart ↦
            subst (λ (vs : List (Option ℕ)). ShowsRestart fields q.sure (raw_page place (seen now) k) (newest_page vs (after.durable k))) (sym (with_other q.places k0 (suc q.sure) k x apart))
            (subst (λ (raw : List ℕ). ShowsRestart fields q.sure raw (newest_page (q.places.written k) (q.places.durable k))) (sym (alike_page place k (suc k) disk now (other k few apart) k (omega arith) (omega arith))) (h.reads k few))
      ]

      pub sized_now : (k : ℕ) → k < 2 → IsSizedPage place now k
      sized_now k low i value few holds = elim (cases_eq k k0) [
        | inl same ↦ elim (held_now i value few (subst (λ (j : ℕ). MayHold now (page_sector place j + i) value) same holds)) [
          | inl e ↦ ap (λ (v : List ℕ). length v) e ∙ length-sector_in new i (omega (arith, length-new, few))
          | inr e ↦ ap (λ (v : List ℕ). length v) e ∙ length-sector_in b.old i (omega (arith, b.old_size, few))
        ]
        | inr apart ↦ h.sized k low i value few (alike_holds place k (suc k) disk now (other k low apart) k (omega arith) (omega arith) i value few holds)
      ]

      pub lone_now : (y : Option ℕ) → PlaceMayHold after k0 y → y ≢ Some q.sure
      lone_now y (inl e) = h.lone y (inl e)
      lone_now y (inr m) = by (subst (λ (vs : List (Option ℕ)). Contains vs y) (with_own q.places k0 (suc q.sure) x) m)
        where
          none_one : (y : Option ℕ) → (y ≡ Some (suc q.sure)) ⊎ (y ≡ None) → y ≢ Some q.sure
          none_one y (inl is) e = omega (arith, some_same (suc q.sure) q.sure (sym is ∙ e))
          none_one y (inr is) e = some_none q.sure (sym e ∙ is)

          by : Contains (x ∷ (None ∷ (Some (suc q.sure) ∷ q.places.written k0))) y → y ≢ Some q.sure
          by (zero, lt, e) = none_one y (subst (λ (z : Option ℕ). (z ≡ Some (suc q.sure)) ⊎ (z ≡ None)) e whole)
          by (suc zero, lt, e) = none_one y (inr (sym e))
          by (suc (suc zero), lt, e) = none_one y (inl (sym e))
          by (suc (suc (suc i)), lt, e) = h.lone y (inr (i, omega (arith, lt), e))

      sure_apart : restart_place q.sure ≢ k0
      sure_apart = other_place q.sure

      sure_alike : AreAlike place (restart_place q.sure) (suc (restart_place q.sure)) disk now
      sure_alike = other (restart_place q.sure) (place_below q.sure) sure_apart

      pub still_now : IsStill place now (restart_place q.sure)
      still_now = alike_still place (restart_place q.sure) (suc (restart_place q.sure)) disk now sure_alike (restart_place q.sure) (omega arith) (omega arith) h.still

      pub emptied_now : fields q.sure ≡ None → is_blank (raw_page place (seen now) (restart_place q.sure)) ≡ true
      emptied_now none = ap is_blank (alike_page place (restart_place q.sure) (suc (restart_place q.sure)) disk now sure_alike (restart_place q.sure) (omega arith) (omega arith)) ∙ h.emptied none

      pub rises_now : IsBelow (fields q.sure) (fields (suc q.sure))
      rises_now = subst (λ (o : Option Restart). IsBelow (fields q.sure) o) (sym b.said) b.rises

    -- ---- the write failed

    it : Shown (seen now)
    it = shown (seen now) (seen_left place now k0)

    pub sending_fails : HoldsRestartsAfter place (restart_sent q) (Some word) fields now
    unfolding Shown
    sending_fails = (
      after it.0 it.1 it.2,
      record {
        lies = h.lies;
        restarts = restart_fails q h.restarts early it.0 it.1;
        sized = sized_now it.0 it.1 it.2;
        lone = lone_now it.0 it.1 it.2;
        leaves = leaves_now it.0 it.1 it.2;
        reads = reads_now it.0 it.1 it.2;
        still = still_now it.0 it.1 it.2;
        still_next = λ no_page. absurd (true_false no_page);
        rises = λ yes_page. rises_now it.0 it.1 it.2;
        says = λ yes_page. (b.next, b.said);
        emptied = emptied_now it.0 it.1 it.2;
        begun = λ w is. (
          early,
          subst (λ (v : ℕ). IsRestartBegun place (restart_sent q (after it.0 it.1 it.2)) fields now v) (some_same word w is) (record {
            next = b.next;
            said = b.said;
            fits = b.fits;
            ranges = b.ranges;
            rises = b.rises;
            old = b.old;
            old_size = b.old_size;
            picked = b.picked;
            older = b.older;
            held = held_now;
          }),
        );
        unbegun = λ is. absurd (some_none word is);
      },
    )

-- ---- the write answered Ok

module _ (place : LogPlace) (q : Restarts) (fields : RestartFields) (disk : Disk) (word : ℕ) (h : HoldsRestarts place q (Some word) fields disk) where
  abbrev next : Restart
  next = (b place q fields disk disk word h).next

  abbrev now : Disk
  now = restart_put place q next word disk

  all : IsBetween disk now now
  all = record { durable = λ n. refl; written = λ n. inr refl }

  size : length (spelled_restart next word) ≡ 4096
  size = length-new place q fields disk now word h

  sector_now : (i : ℕ) → i < 8 → seen now (page_sector place (restart_place (suc q.sure)) + i) ≡ sector_in (spelled_restart next word) i
  sector_now i few =
      let new = spelled_restart next word in
      let first = page_sector place (restart_place (suc q.sure)) in
      let many : length (sectors_of new) ≡ 8 = length-sectors_of new ∙ omega (arith, size) in
      let inside : is_within first (length (sectors_of new)) (first + i) ≡ true = is_in first (length (sectors_of new)) (first + i) (omega arith) (omega (arith, many, few)) in
      ap (λ (v : Bool). newest (cond v (sector_of (sectors_of new) (first + i - first) ∷ disk.written (first + i)) (disk.written (first + i))) (disk.durable (first + i))) inside
      ∙ ap (sector_of (sectors_of new)) (let e : first + i - first ≡ i = omega arith in e) ∙ sector_of_bytes new i size few

  shows : ShowsRestart fields q.sure (raw_page place (seen now) (restart_place (suc q.sure))) (Some (suc q.sure))
  shows = new_shows place q fields disk now word h (raw_page place (seen now) (restart_place (suc q.sure))) (page_is place (seen now) (restart_place (suc q.sure)) (spelled_restart next word) size sector_now)

  abbrev x : Option ℕ
  x = Some (suc q.sure)

  restart_stands : HoldsRestartsAfter place (restart_written q) None fields now
  restart_stands = (
    with_page q.places (restart_place (suc q.sure)) (suc q.sure) x,
    record {
      lies = h.lies;
      restarts = restart_is_written q h.restarts (early place q fields disk now word h) x;
      sized = sized_now place q fields disk now word h all x (inl refl) shows;
      lone = lone_now place q fields disk now word h all x (inl refl) shows;
      leaves = leaves_now place q fields disk now word h all x (inl refl) shows;
      reads = reads_now place q fields disk now word h all x (inl refl) shows;
      still = still_now place q fields disk now word h all x (inl refl) shows;
      still_next = λ no_page. absurd (true_false no_page);
      rises = λ yes_page. rises_now place q fields disk now word h all x (inl refl) shows;
      says = λ yes_page. (next, (b place q fields disk disk word h).said);
      emptied = emptied_now place q fields disk now word h all x (inl refl) shows;
      begun = λ w is. absurd (some_none w (sym is));
      unbegun = λ is no_page. absurd (true_false no_page);
    },
  )

  -- whatever is written has the fields of the page that was begun
  same_next : (r : Restart) → fields (suc q.sure) ≡ Some r → next ≡ r
  same_next r is = some_restart next r (sym (b place q fields disk disk word h).said ∙ is)

  pub restart_is_sent : (r : Restart) → fields (suc q.sure) ≡ Some r → HoldsRestartsAfter place (restart_written q) None fields (restart_put place q r word disk)
  restart_is_sent r is = subst (λ (f : Restart). HoldsRestartsAfter place (restart_written q) None fields (restart_put place q f word disk)) (same_next r is) restart_stands

  pub restart_not_sent : (left : Disk) (r : Restart) → fields (suc q.sure) ≡ Some r → IsBetween disk (restart_put place q r word disk) left → HoldsRestartsAfter place (restart_sent q) (Some word) fields left
  restart_not_sent left r is between = sending_fails place q fields disk left word h (subst (λ (f : Restart). IsBetween disk (restart_put place q f word disk) left) (sym (same_next r is)) between)
