-- Restart pages are found, stay the disk's whatever is done but for their writes, and one of them is chosen.
use Rattle.std.proofs.Common.{◌≡◌, ◌≢◌, ◌⊎◌, ℕ, suc, ◌+◌, ◌-◌, ◌<◌, ◌≤◌, max, Bool, true, false, List, length, Option, Some, None, refl, sym, ap, ◌∙◌, subst, inl, inr, arith}
use Rattle.std.specs.Prelude.{if◌then◌else◌, ◌&&◌, ◌||◌, is_none}
use Rattle.std.proofs.lemmas.Bool.{cases_lt, eq-eqb, ne_eqb}
use Rattle.log_reading.specs.log_page.declared.places.LogPlace.{LogPlace}
use Rattle.log_reading.specs.log_page.declared.restart.Restart.{Restart}
use Rattle.log_reading.specs.log_page.Restarts.{restart_of, is_blank, is_emptied, FitsRestart}
use Rattle.log_reading.specs.log_page.RestartLaws.{HasRanges}
use Rattle.log_reading.specs.log_page.CheckWords.{IsCheckWord}
use Rattle.log_reading.specs.Rings.{IsRingPlace}
use Rattle.log_reading.specs.Fronts.{chosen_in}
use Rattle.store_model.specs.sector_device.Disks.{Disk, seen, settled, IsSized}
use Rattle.store_model.proofs.sector_device.Images.{holds_seen}
use Rattle.store_model.specs.Geometry.{SectorBytes, CanLeave}
use Rattle.store_model.specs.Rings.{newest_page, PlaceMayHold, Restarts, restart_place, synced_places, greater_page, chosen_page}
use Rattle.store_model.specs.Rings.RestartStep.{sync_before, sync_after}
use Rattle.store_model.proofs.Rings.{restarts-step}
use Rattle.ring_laws.specs.PageBytes.{page_sector, raw_page, CanLeavePage, IsStill, IsSizedPage, AreAlike}
use Rattle.ring_laws.specs.RestartPages.{RestartFields, IsBelow, said_restart, ShowsRestart, IsRestartBegun, HoldsRestarts, found_places, found_restarts, with_next, restart_synced, ChoosesRestart}
use Rattle.ring_laws.proofs.Mixing.{length-page, page_sector_in}
use Rattle.ring_laws.proofs.RingFacts.{alike_holds, alike_page, alike_image, alike_still, some_none, some_same, true_false}
use Rattle.ring_laws.proofs.RingCalls.{still_value, still_image, settled_value, settled_page, sized_value}
use Rattle.ring_laws.proofs.RestartFacts.{other_place, one_of_two, place_below, place_again, newest_held, picks_first, picks_second, chosen_of_two}

none_restart : (r : Restart) → ◌≡◌ {A = Option Restart} (Some r) None → ⊥
none_restart r e = cc

-- ---- a session finds them

module _ (place : LogPlace) (disk : Disk) (next : ℕ) (fields : RestartFields) (lies : IsRingPlace place) (sized : IsSized disk) (two : next < 2) (still : (k : ℕ) → k < 2 → IsStill place disk k)
    (own : said_restart (raw_page place (seen disk) (1 - next)) ≡ fields (1 - next)) (older : IsBelow (said_restart (raw_page place (seen disk) next)) (fields (1 - next)))
    (blank : fields (1 - next) ≡ None → is_blank (raw_page place (seen disk) (1 - next)) ≡ true) where
  abbrev sure : ℕ
  sure = 1 - next

  sure_is : restart_place sure ≡ sure
  sure_is = omega (arith, two)

  next_is : restart_place (suc sure) ≡ next
  next_is = omega (arith, two)

  at_sure : (found_places sure).durable (restart_place sure) ≡ Some sure
  at_sure = ap (λ (v : Bool). if v then Some sure else None) (eq-eqb (restart_place sure) (restart_place sure) refl)

  at_next : (found_places sure).durable (restart_place (suc sure)) ≡ None
  at_next = ap (λ (v : Bool). if v then Some sure else None) (ne_eqb (restart_place (suc sure)) (restart_place sure) (λ e. other_place sure (sym e)))

  held : (k : ℕ) (x : Option ℕ) → PlaceMayHold (found_places sure) k x → x ≡ (found_places sure).durable k
  held k x (inl e) = e
  held k x (inr m) = absurd (omega (arith, m.1))

  shows_sure : ShowsRestart fields sure (raw_page place (seen disk) (restart_place sure)) (Some sure)
  shows_sure = record {
    is = λ n e le. ap (λ (k : ℕ). said_restart (raw_page place (seen disk) k)) sure_is ∙ own ∙ ap fields (some_same sure n e);
    below = λ old. absurd (let lt : sure < sure = old sure refl in omega (arith, lt));
  }

  shows_next : ShowsRestart fields sure (raw_page place (seen disk) (restart_place (suc sure))) None
  shows_next = record {
    is = λ n e le. absurd (some_none n (sym e));
    below = λ old. subst (λ (k : ℕ). IsBelow (said_restart (raw_page place (seen disk) k)) (fields sure)) (sym next_is) older;
  }

  shown : (k : ℕ) → k < 2 → ShowsRestart fields sure (raw_page place (seen disk) k) ((found_places sure).durable k)
  shown k few = elim (one_of_two sure k few) [
    | inl here ↦ subst (λ (j : ℕ). ShowsRestart fields sure (raw_page place (seen disk) j) ((found_places sure).durable j)) (sym here)
        (subst (λ (x : Option ℕ). ShowsRestart fields sure (raw_page place (seen disk) (restart_place sure)) x) (sym at_sure) shows_sure)
    | inr there ↦ subst (λ (j : ℕ). ShowsRestart fields sure (raw_page place (seen disk) j) ((found_places sure).durable j)) (sym there)
        (subst (λ (x : Option ℕ). ShowsRestart fields sure (raw_page place (seen disk) (restart_place (suc sure))) x) (sym at_next) shows_next)
  ]

  pub finds : HoldsRestarts place (found_restarts next) None fields disk
  finds = record {
    lies = lies;
    restarts = record {
      stays = λ x holds. held (restart_place sure) x holds ∙ at_sure;
      next = λ j x holds e. absurd (some_none j (sym e ∙ held (restart_place (suc sure)) x holds ∙ at_next));
      reads = λ done. absurd (true_false (sym done));
      begun = λ done. absurd (true_false (sym done));
    };
    sized = λ k few i value eight holds. sized_value disk (page_sector place k + i) value sized holds;
    lone = λ x holds e. some_none sure (sym e ∙ held (restart_place (suc sure)) x holds ∙ at_next);
    leaves = λ k image few left. (
      (found_places sure).durable k,
      inl refl,
      subst (λ (raw : List ℕ). ShowsRestart fields sure raw ((found_places sure).durable k)) (sym (still_image place disk image k (still k few) left)) (shown k few),
    );
    reads = shown;
    still = still (restart_place sure) (place_below sure);
    still_next = λ not_begun. still (restart_place (suc sure)) (place_below (suc sure));
    rises = λ begun. absurd (true_false (sym begun));
    says = λ begun. absurd (true_false (sym begun));
    emptied = λ none. ap (λ (k : ℕ). is_blank (raw_page place (seen disk) k)) sure_is ∙ blank none;
    begun = λ w is. absurd (some_none w (sym is));
    unbegun = λ is done. refl;
  }

-- ---- a sync

module _ (place : LogPlace) (q : Restarts) (check : Option ℕ) (fields : RestartFields) (disk : Disk) (h : HoldsRestarts place q check fields disk) where
  abbrev newest_of : ℕ → Option ℕ
  newest_of k = newest_page (q.places.written k) (q.places.durable k)

  synced_value : (k : ℕ) (x : Option ℕ) → PlaceMayHold (synced_places q.places) k x → x ≡ newest_of k
  synced_value k x (inl e) = e
  synced_value k x (inr m) = absurd (omega (arith, m.1))

  sure_held : (x : Option ℕ) → PlaceMayHold q.places (restart_place q.sure) x → x ≡ Some q.sure
  sure_held x holds = h.restarts.stays x holds

  newest_sure : newest_of (restart_place q.sure) ≡ Some q.sure
  newest_sure = sure_held (newest_of (restart_place q.sure)) (newest_held q.places (restart_place q.sure))

  -- what stands at the last durable page's place
  sure_says : said_restart (raw_page place (seen disk) (restart_place q.sure)) ≡ fields q.sure
  sure_says = (h.reads (restart_place q.sure) (place_below q.sure)).is q.sure newest_sure (omega arith)

  sized_synced : (k : ℕ) → k < 2 → IsSizedPage place (settled disk) k
  sized_synced k few i value eight holds = h.sized k few i value eight (settled_value disk (page_sector place k + i) value holds)

  early_synced : q.done ≡ false → HoldsRestarts place (record q { places = synced_places q.places }) check fields (settled disk)
  early_synced early = record {
    lies = h.lies;
    restarts = restarts-step q (record q { places = synced_places q.places }) (sync_before early) h.restarts;
    sized = sized_synced;
    lone = λ x holds e. h.lone x (subst (λ (y : Option ℕ). PlaceMayHold q.places (restart_place (suc q.sure)) y) (sym (synced_value (restart_place (suc q.sure)) x holds)) (newest_held q.places (restart_place (suc q.sure)))) e;
    leaves = λ k image few left. (newest_of k, inl refl, subst (λ (raw : List ℕ). ShowsRestart fields q.sure raw (newest_of k)) (sym (settled_page place disk image k left)) (h.reads k few));
    reads = λ k few. h.reads k few;
    still = λ i few. refl;
    still_next = λ not_begun i few. refl;
    rises = h.rises;
    says = h.says;
    emptied = h.emptied;
    begun = λ word is. let b = (h.begun word is).1 in (
      (h.begun word is).0,
      record {
        next = b.next;
        said = b.said;
        fits = b.fits;
        ranges = b.ranges;
        rises = b.rises;
        old = b.old;
        old_size = b.old_size;
        picked = b.picked;
        older = b.older;
        held = λ i value few holds. b.held i value few (settled_value disk (page_sector place (restart_place (suc q.sure)) + i) value holds);
      },
    );
    unbegun = h.unbegun;
  }

  module _ (done : q.done ≡ true) where
    begun_now : q.begun ≡ true
    begun_now = h.restarts.begun done

    newest_next : newest_of (restart_place (suc q.sure)) ≡ Some (suc q.sure)
    newest_next = h.restarts.reads done

    next_says : said_restart (raw_page place (seen disk) (restart_place (suc q.sure))) ≡ fields (suc q.sure)
    next_says = (h.reads (restart_place (suc q.sure)) (place_below (suc q.sure))).is (suc q.sure) newest_next (omega arith)

    next_shows : ShowsRestart fields (suc q.sure) (raw_page place (seen disk) (restart_place (suc q.sure))) (Some (suc q.sure))
    next_shows = record {
      is = λ n e le. next_says ∙ ap fields (some_same (suc q.sure) n e);
      below = λ old. absurd (let lt : suc q.sure < suc q.sure = old (suc q.sure) refl in omega (arith, lt));
    }

    sure_shows : ShowsRestart fields (suc q.sure) (raw_page place (seen disk) (restart_place q.sure)) (Some q.sure)
    sure_shows = record {
      is = λ n e le. absurd (omega (arith, some_same q.sure n e, le));
      below = λ old. subst (λ (o : Option Restart). IsBelow o (fields (suc q.sure))) (sym sure_says) (h.rises begun_now);
    }

    shown_synced : (k : ℕ) → k < 2 → ShowsRestart fields (suc q.sure) (raw_page place (seen disk) k) (newest_of k)
    shown_synced k few = elim (one_of_two q.sure k few) [
      | inl here ↦ subst (λ (j : ℕ). ShowsRestart fields (suc q.sure) (raw_page place (seen disk) j) (newest_of j)) (sym here)
          (subst (λ (x : Option ℕ). ShowsRestart fields (suc q.sure) (raw_page place (seen disk) (restart_place q.sure)) x) (sym newest_sure) sure_shows)
      | inr there ↦ subst (λ (j : ℕ). ShowsRestart fields (suc q.sure) (raw_page place (seen disk) j) (newest_of j)) (sym there)
          (subst (λ (x : Option ℕ). ShowsRestart fields (suc q.sure) (raw_page place (seen disk) (restart_place (suc q.sure))) x) (sym newest_next) next_shows)
    ]

    lone_next : (x : Option ℕ) → PlaceMayHold (synced_places q.places) (restart_place (suc (suc q.sure))) x → x ≢ Some (suc q.sure)
    lone_next x holds e =
        let at : x ≡ newest_of (restart_place q.sure) = synced_value (restart_place (suc (suc q.sure))) x holds ∙ ap newest_of (place_again q.sure) in
        omega (arith, some_same q.sure (suc q.sure) (sym newest_sure ∙ sym at ∙ e))

    late_synced : HoldsRestarts place (record q { sure = suc q.sure; begun = false; done = false; places = synced_places q.places }) check fields (settled disk)
    late_synced = record {
      lies = h.lies;
      restarts = restarts-step q (record q { sure = suc q.sure; begun = false; done = false; places = synced_places q.places }) (sync_after done) h.restarts;
      sized = sized_synced;
      lone = lone_next;
      leaves = λ k image few left. (newest_of k, inl refl, subst (λ (raw : List ℕ). ShowsRestart fields (suc q.sure) raw (newest_of k)) (sym (settled_page place disk image k left)) (shown_synced k few));
      reads = λ k few. shown_synced k few;
      still = λ i few. refl;
      still_next = λ not_begun i few. refl;
      rises = λ begun. absurd (true_false (sym begun));
      says = λ begun. absurd (true_false (sym begun));
      emptied = λ none. absurd (none_restart (h.says begun_now).0 (sym (h.says begun_now).1 ∙ none));
      begun = λ word is. absurd (true_false (sym done ∙ (h.begun word is).0));
      unbegun = λ is early. refl;
    }

  pub restarts_sync : HoldsRestarts place (restart_synced q) check fields (settled disk)
  restarts_sync = go q.done refl
    where
      go : (v : Bool) → q.done ≡ v
          → HoldsRestarts place (if v then record q { sure = suc q.sure; begun = false; done = false; places = synced_places q.places } else record q { places = synced_places q.places }) check fields (settled disk)
      go true done = late_synced done
      go false early = early_synced early

  -- ---- what is done elsewhere

  module _ (now : Disk) (alike : AreAlike place 0 2 disk now) where
    low : (k : ℕ) → 0 ≤ k
    low k = omega arith

    seen_same : (k : ℕ) → k < 2 → raw_page place (seen now) k ≡ raw_page place (seen disk) k
    seen_same k few = alike_page place 0 2 disk now alike k (low k) few

    pub restarts_kept : HoldsRestarts place q check fields now
    restarts_kept = record {
      lies = h.lies;
      restarts = h.restarts;
      sized = λ k few i value eight holds. h.sized k few i value eight (alike_holds place 0 2 disk now alike k (low k) few i value eight holds);
      lone = h.lone;
      leaves = λ k image few left. h.leaves k image few (alike_image place 0 2 disk now alike k (low k) few image left);
      reads = λ k few. subst (λ (raw : List ℕ). ShowsRestart fields q.sure raw (newest_of k)) (sym (seen_same k few)) (h.reads k few);
      still = alike_still place 0 2 disk now alike (restart_place q.sure) (low (restart_place q.sure)) (place_below q.sure) h.still;
      still_next = λ not_begun. alike_still place 0 2 disk now alike (restart_place (suc q.sure)) (low (restart_place (suc q.sure))) (place_below (suc q.sure)) (h.still_next not_begun);
      rises = h.rises;
      says = h.says;
      emptied = λ none. ap is_blank (seen_same (restart_place q.sure) (place_below q.sure)) ∙ h.emptied none;
      begun = λ word is. let b = (h.begun word is).1 in (
        (h.begun word is).0,
        record {
          next = b.next;
          said = b.said;
          fits = b.fits;
          ranges = b.ranges;
          rises = b.rises;
          old = b.old;
          old_size = b.old_size;
          picked = b.picked;
          older = b.older;
          held = λ i value few holds.
              b.held i value few (alike_holds place 0 2 disk now alike (restart_place (suc q.sure)) (low (restart_place (suc q.sure))) (place_below (suc q.sure)) i value few holds);
        },
      );
      unbegun = h.unbegun;
    }

  -- ---- the chosen one

  module _ (image : SectorBytes) (left : CanLeave disk image) where
    left_page : (k : ℕ) → CanLeavePage place disk image k
    left_page k i few = left (page_sector place k + i)

    abbrev raw : ℕ → List ℕ
    raw k = raw_page place image k

    abbrev Number : ℕ → Type 0
    Number k = (x : Option ℕ) × PlaceMayHold q.places k x × (k < 2 → ShowsRestart fields q.sure (raw_page place image k) x)

    number_of : (k : ℕ) → Number k
    number_of k = elim (cases_lt k 2) [
      | inl few ↦ (let x = h.leaves k image few (left_page k) in (x.0, x.1, λ lt. x.2))
      | inr past ↦ (q.places.durable k, inl refl, λ lt. absurd (omega (arith, past, lt)))
    ]

    abbrev numbers : ℕ → Option ℕ
    numbers k = (number_of k).0

    abbrev here : ℕ
    here = restart_place q.sure

    abbrev there : ℕ
    there = restart_place (suc q.sure)

    number_here : numbers here ≡ Some q.sure
    number_here = sure_held (numbers here) (number_of here).1

    says_here : said_restart (raw_page place image here) ≡ fields q.sure
    says_here = ((number_of here).2 (place_below q.sure)).is q.sure number_here (omega arith)

    -- a page that isn't whole, or the other one of both, is chosen
    chosen_here : IsBelow (said_restart (raw_page place image there)) (said_restart (raw_page place image here)) → chosen_in (raw_page place image 0) (raw_page place image 1) ≡ said_restart (raw_page place image here)
    chosen_here below = elim (one_of_two q.sure 0 (omega arith)) [
      | inl zero_here ↦
          ap (λ (k : ℕ). chosen_in (raw_page place image k) (raw_page place image 1)) zero_here
          ∙ ap (λ (k : ℕ). chosen_in (raw_page place image here) (raw_page place image k)) (let e : 1 ≡ there = omega (arith, zero_here) in e)
          ∙ picks_first (restart_of (raw_page place image here)) (restart_of (raw_page place image there)) below
      | inr zero_there ↦
          ap (λ (k : ℕ). chosen_in (raw_page place image k) (raw_page place image 1)) zero_there
          ∙ ap (λ (k : ℕ). chosen_in (raw_page place image there) (raw_page place image k)) (let e : 1 ≡ here = omega (arith, zero_there) in e)
          ∙ picks_second (restart_of (raw_page place image here)) (restart_of (raw_page place image there)) below
    ]

    chosen_there : IsBelow (said_restart (raw_page place image here)) (said_restart (raw_page place image there)) → chosen_in (raw_page place image 0) (raw_page place image 1) ≡ said_restart (raw_page place image there)
    chosen_there below = elim (one_of_two q.sure 0 (omega arith)) [
      | inl zero_here ↦
          ap (λ (k : ℕ). chosen_in (raw_page place image k) (raw_page place image 1)) zero_here
          ∙ ap (λ (k : ℕ). chosen_in (raw_page place image here) (raw_page place image k)) (let e : 1 ≡ there = omega (arith, zero_here) in e)
          ∙ picks_second (restart_of (raw_page place image there)) (restart_of (raw_page place image here)) below
      | inr zero_there ↦
          ap (λ (k : ℕ). chosen_in (raw_page place image k) (raw_page place image 1)) zero_there
          ∙ ap (λ (k : ℕ). chosen_in (raw_page place image there) (raw_page place image k)) (let e : 1 ≡ here = omega (arith, zero_there) in e)
          ∙ picks_first (restart_of (raw_page place image there)) (restart_of (raw_page place image here)) below
    ]

    abbrev Sure : Type 0
    Sure = (chosen_page numbers ≡ Some q.sure) × (chosen_in (raw_page place image 0) (raw_page place image 1) ≡ fields q.sure)

    abbrev Next : Type 0
    Next = (q.begun ≡ true) × (chosen_page numbers ≡ Some (suc q.sure)) × (chosen_in (raw_page place image 0) (raw_page place image 1) ≡ fields (suc q.sure))

    greatest : (x : Option ℕ) → numbers there ≡ x → chosen_page numbers ≡ greater_page (Some q.sure) x
    greatest x is = chosen_of_two numbers q.sure ∙ ap (λ (y : Option ℕ). greater_page y (numbers there)) number_here ∙ ap (greater_page (Some q.sure)) is

    is_sure : (x : Option ℕ) → numbers there ≡ x → greater_page (Some q.sure) x ≡ Some q.sure → ((n : ℕ) → x ≡ Some n → n < q.sure) → Sure
    is_sure x is most older = (
      greatest x is ∙ most,
      chosen_here (subst (λ (o : Option Restart). IsBelow (said_restart (raw_page place image there)) o) (sym says_here)
          (((number_of there).2 (place_below (suc q.sure))).below (λ n e. older n (sym is ∙ e)))) ∙ says_here,
    )

    which : (x : Option ℕ) → numbers there ≡ x → Sure ⊎ Next
    which None is = inl (is_sure None is refl (λ n e. absurd (some_none n (sym e))))
    which (Some j) is = elim (h.restarts.next j (numbers there) (number_of there).1 is) [
      | inl le ↦
          let less : j < q.sure = omega (arith, le, lone_at) in
          inl (is_sure (Some j) is (ap (λ (n : ℕ). Some n) (let e : max q.sure j ≡ q.sure = omega (arith, le) in e)) (λ n e. omega (arith, less, some_same j n e)))
      | inr begun ↦
          let says_there : said_restart (raw_page place image there) ≡ fields (suc q.sure) = ((number_of there).2 (place_below (suc q.sure))).is (suc q.sure) (is ∙ ap (λ (n : ℕ). Some n) begun.1) (omega arith) in
          inr (
            begun.0,
            greatest (Some j) is ∙ ap (λ (n : ℕ). Some n) (let e : max q.sure j ≡ suc q.sure = omega (arith, begun.1) in e),
            chosen_there (subst (λ (o : Option Restart). IsBelow o (said_restart (raw_page place image there))) (sym says_here)
                (subst (λ (o : Option Restart). IsBelow (fields q.sure) o) (sym says_there) (h.rises begun.0))) ∙ says_there,
          )
    ]
      where
        lone_at : j ≢ q.sure
        lone_at e = h.lone (numbers there) (number_of there).1 (is ∙ ap (λ (n : ℕ). Some n) e)

    blank_one : is_blank (raw_page place image here) ≡ true → (is_blank (raw_page place image 0) || is_blank (raw_page place image 1)) ≡ true
    blank_one blank = elim (one_of_two q.sure 0 (omega arith)) [
      | inl zero_here ↦ ap (λ (v : Bool). v || is_blank (raw_page place image 1)) (ap (λ (k : ℕ). is_blank (raw_page place image k)) zero_here ∙ blank)
      | inr zero_there ↦
          ap (λ (v : Bool). is_blank (raw_page place image 0) || v) (ap (λ (k : ℕ). is_blank (raw_page place image k)) (let e : 1 ≡ here = omega (arith, zero_there) in e) ∙ blank)
          ∙ either (is_blank (raw_page place image 0))
    ]
      where
        either : (v : Bool) → (v || true) ≡ true
        either true = refl
        either false = refl

    none_chosen : Sure ⊎ Next → chosen_in (raw_page place image 0) (raw_page place image 1) ≡ None → is_emptied (raw_page place image 0) (raw_page place image 1) ≡ true
    none_chosen (inr next) none = absurd (none_restart (h.says next.0).0 (sym (h.says next.0).1 ∙ sym next.2 ∙ none))
    none_chosen (inl sure) none =
        let blank : is_blank (raw_page place image here) ≡ true = ap is_blank (still_image place disk image here h.still (left_page here)) ∙ h.emptied (sym sure.1 ∙ none) in
        ap (λ (o : Option Restart). is_none o && (is_blank (raw_page place image 0) || is_blank (raw_page place image 1))) none ∙ blank_one blank

    pub chooses : ChoosesRestart place q fields image
    chooses = let it = which (numbers there) refl in record { restarts = numbers; may = λ k. (number_of k).1; is = it; emptied = none_chosen it }

-- ---- a check word is picked

module _ (place : LogPlace) (q : Restarts) (fields : RestartFields) (disk : Disk) (next : Restart) (word : ℕ) (h : HoldsRestarts place q None fields disk) (early : q.done ≡ false) (fits : FitsRestart next) (ranges : HasRanges next)
    (rises : IsBelow (fields q.sure) (Some next)) (picked : IsCheckWord (raw_page place (seen disk) (restart_place (suc q.sure))) word) where
  abbrev k0 : ℕ
  k0 = restart_place (suc q.sure)

  abbrev told : RestartFields
  told = with_next q next fields

  not_begun : q.begun ≡ false
  not_begun = h.unbegun refl early

  told_next : told (suc q.sure) ≡ Some next
  told_next = ap (λ (v : Bool). if v then Some next else fields (suc q.sure)) (eq-eqb (suc q.sure) (suc q.sure) refl)

  told_other : (n : ℕ) → n ≢ suc q.sure → told n ≡ fields n
  told_other n apart = ap (λ (v : Bool). if v then Some next else fields n) (ne_eqb n (suc q.sure) apart)

  told_sure : told q.sure ≡ fields q.sure
  told_sure = told_other q.sure (λ e. omega (arith, e))

  -- no page is the next one yet
  few_numbers : (k : ℕ) (x : Option ℕ) (n : ℕ) → k < 2 → PlaceMayHold q.places k x → x ≡ Some n → n ≤ q.sure
  few_numbers k x n few holds is = elim (one_of_two q.sure k few) [
    | inl here ↦ omega (arith, some_same n q.sure (sym is ∙ h.restarts.stays x (subst (λ (j : ℕ). PlaceMayHold q.places j x) here holds)))
    | inr there ↦ elim (h.restarts.next n x (subst (λ (j : ℕ). PlaceMayHold q.places j x) there holds) is) [
      | inl le ↦ le
      | inr begun ↦ absurd (true_false (sym begun.0 ∙ not_begun))
    ]
  ]

  tells : (k : ℕ) (raw : List ℕ) (x : Option ℕ) → k < 2 → PlaceMayHold q.places k x → ShowsRestart fields q.sure raw x → ShowsRestart told q.sure raw x
  tells k raw x few holds shows = record {
    is = λ n e le. shows.is n e le ∙ sym (told_other n (λ f. omega (arith, few_numbers k x n few holds e, f)));
    below = λ old. subst (λ (o : Option Restart). IsBelow (said_restart raw) o) (sym told_sure) (shows.below old);
  }

  k0_sized : (i : ℕ) → i < 8 → length (seen disk (page_sector place k0 + i)) ≡ 512
  k0_sized i few = h.sized k0 (place_below (suc q.sure)) i (seen disk (page_sector place k0 + i)) few (holds_seen disk (page_sector place k0 + i))

  older : IsBelow (said_restart (raw_page place (seen disk) k0)) (fields q.sure)
  older = (h.reads k0 (place_below (suc q.sure))).below (λ n e. less n e)
    where
      less : (n : ℕ) → newest_page (q.places.written k0) (q.places.durable k0) ≡ Some n → n < q.sure
      less n e =
          let holds = newest_held q.places k0 in
          let le = few_numbers k0 (newest_page (q.places.written k0) (q.places.durable k0)) n (place_below (suc q.sure)) holds e in
          let apart : n ≢ q.sure = λ f. h.lone (newest_page (q.places.written k0) (q.places.durable k0)) holds (e ∙ ap (λ (m : ℕ). Some m) f) in
          omega (arith, le, apart)

  pub restart_picks : HoldsRestarts place q (Some word) told disk
  restart_picks = record {
    lies = h.lies;
    restarts = h.restarts;
    sized = h.sized;
    lone = h.lone;
    leaves = λ k image few left. let x = h.leaves k image few left in (x.0, x.1, tells k (raw_page place image k) x.0 few x.1 x.2);
    reads = λ k few. tells k (raw_page place (seen disk) k) (newest_page (q.places.written k) (q.places.durable k)) few (newest_held q.places k) (h.reads k few);
    still = h.still;
    still_next = h.still_next;
    rises = λ begun. absurd (true_false (sym begun ∙ not_begun));
    says = λ begun. absurd (true_false (sym begun ∙ not_begun));
    emptied = λ none. h.emptied (sym told_sure ∙ none);
    begun = λ w is. (
      early,
      subst (λ (v : ℕ). IsRestartBegun place q told disk v) (let e : word ≡ w = some_same word w is in e) (record {
        next = next;
        said = told_next;
        fits = fits;
        ranges = ranges;
        rises = subst (λ (o : Option Restart). IsBelow o (Some next)) (sym told_sure) rises;
        old = raw_page place (seen disk) k0;
        old_size = length-page place (seen disk) k0 k0_sized;
        picked = picked;
        older = subst (λ (o : Option Restart). IsBelow (said_restart (raw_page place (seen disk) k0)) o) (sym told_sure) older;
        held = λ i value few holds. inr (still_value disk (page_sector place k0 + i) value (h.still_next not_begun i few) holds ∙ sym (page_sector_in place (seen disk) k0 i k0_sized few));
      }),
    );
    unbegun = λ is. absurd (some_none word is);
  }
