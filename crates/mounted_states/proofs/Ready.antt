-- What a mounted volume has to be changed by operations: no change journal, clusters that can be named, and a log whose runs lie in its clusters.
use Rattle.std.proofs.Common.{◌≡◌, ℕ, ◌+◌, ◌-◌, ◌*◌, ◌/◌, ◌%◌, ◌<◌, ◌≤◌, Bool, true, false, not, ltb, List, [], ◌∷◌, Option, Some, None, Ok, refl, sym, ap, subst, ◌∙◌, arith, lt-ltb, le-ltb}
use Rattle.std.specs.Prelude.{if◌then◌else◌, is_some, sum_by, unwrap_or}
use Rattle.std.specs.List.{AllByRecursion}
use Rattle.std.proofs.lemmas.List.Sums.{sum_by-cons}
use Rattle.host_base.specs.Answers.{needs}
use Rattle.disk_model.specs.Content.{Content}
use Rattle.volume_model.specs.Volumes.{Volume, upper_of}
use Rattle.volume_model.specs.Owners.{uses}
use Rattle.volume_state.specs.Journals.{journal_of, journal_of_file, some_journal, file_or_none, journal_file}
use Rattle.volume_state.specs.Trees.{tree_of, tree_with, volume_journal}
use Rattle.stream_laws.specs.Sharing.{stream_at, runs_in}
use Rattle.safe_blocks.specs.plan_owners.Agreeing.{log_key}
use Rattle.log_page.specs.declared.places.Extent.{Extent}
use Rattle.log_page.specs.declared.places.LogPlace.{LogPlace}
use Rattle.log_reading.specs.LogPages.{sector_in, sector_below, log_sector}
use Rattle.log_reading.specs.Rings.{IsPageAt, IsRingPlace}
use Rattle.log_area.specs.Areas.{page_first}
use Rattle.safe_blocks.specs.image_open.declared.refusal.Refusal.TheVariants.{Unbuilt}
use Rattle.safe_blocks.specs.volume_mount.Mounts.{journal_number, has_no_journal}
use Rattle.safe_blocks.specs.spares_at_mount.Mounts.{LiesInLog}
use Rattle.mounted_states.specs.Ready.{RunsLieInLog}

-- ---- no journal

none_of : (o : Option ℕ) → is_some o ≡ false → o ≡ None
none_of None is = refl
none_of (Some n) is = absurd cc

number_none : (upper : List ℕ) (v : Volume) → has_no_journal upper v ≡ Ok tt → journal_number upper v ≡ None
unfolding has_no_journal
number_none upper v e = by_test (is_some (journal_number upper v)) refl e
  where
    by_test : (b : Bool) → is_some (journal_number upper v) ≡ b → needs (not b) (Unbuilt 6) ≡ Ok tt → journal_number upper v ≡ None
    by_test true is bad = absurd cc
    by_test false is fine = none_of (journal_number upper v) is

pub journal_none : (c : Content) (v : Volume) → has_no_journal (upper_of c v) v ≡ Ok tt → (tree_of c v).journal ≡ None
unfolding tree_of tree_with volume_journal journal_of journal_file
journal_none c v none = ap (λ (o : Option ℕ). some_journal (journal_of_file c v.per (file_or_none v o))) (number_none (upper_of c v) v none)

-- ---- runs

abbrev size_of : List Extent → ℕ
size_of runs = sum_by (λ (e : Extent). e.sectors) runs

-- what holds of each sector by its number holds of each sector of each run
by_number : (P : ℕ → Type 0) (runs : List Extent) → ((n s : ℕ) → n < size_of runs → sector_in runs n ≡ Some s → P s) → AllByRecursion (λ (e : Extent). (s : ℕ) → e.first ≤ s → s < e.first + e.sectors → P s) runs
by_number P [] each = tt
by_number P (e ∷ runs) each = (here, by_number P runs behind)
  where
    all : size_of (e ∷ runs) ≡ e.sectors + size_of runs
    all = sum_by-cons (λ (x : Extent). x.sectors) e runs

    here : (s : ℕ) → e.first ≤ s → s < e.first + e.sectors → P s
    here s low high =
        let inside : s - e.first < e.sectors = omega (arith, low, high) in
        let at : e.first + (s - e.first) ≡ s = omega (arith, low) in
        each (s - e.first) s (omega (arith, inside, all)) (ap (λ (t : Bool). if t then Some (e.first + (s - e.first)) else sector_in runs (s - e.first - e.sectors)) (lt-ltb (s - e.first) e.sectors inside) ∙ ap (λ (k : ℕ). Some k) at)

    behind : (n s : ℕ) → n < size_of runs → sector_in runs n ≡ Some s → P s
    behind n s below at =
        let past : ltb (e.sectors + n) e.sectors ≡ false = le-ltb (e.sectors + n) e.sectors (omega arith) in
        let less : e.sectors + n - e.sectors ≡ n = omega arith in
        each (e.sectors + n) s (omega (arith, below, all))
        (ap (λ (t : Bool). if t then Some (e.first + (e.sectors + n)) else sector_in runs (e.sectors + n - e.sectors)) past ∙ ap (sector_in runs) less ∙ at)

same_some : (x y : ℕ) → Some x ≡ Some y → x ≡ y
same_some x y is = cc

-- a sector of the log that is there is the one of its runs
there_is : (t : Bool) (device s first : ℕ) → (if t then sector_below device (Some s) else None) ≡ Some first → s ≡ first
there_is true device s first is = by (ltb s device) is
  where
    by : (u : Bool) → (if u then Some s else None) ≡ Some first → s ≡ first
    by true e = same_some s first e
    by false e = absurd cc
there_is false device s first is = absurd cc

page_at : (place : LogPlace) (k first : ℕ) → IsPageAt place k first → page_first place k ≡ first
page_at place k first at = (let is : log_sector place (8 * k) ≡ Some first = ap (log_sector place) (omega arith) ∙ at.row 0 (omega arith) ∙ ap (λ (i : ℕ). Some i) (omega arith) in ap (λ (o : Option ℕ). unwrap_or o 0) is)

module _ (place : LogPlace) (v : Volume) (ring : IsRingPlace place) (lies : LiesInLog place v) (sized : size_of place.runs ≡ 8 * place.pages) where
  in_log : (n s : ℕ) → n < size_of place.runs → sector_in place.runs n ≡ Some s → 0 < uses (runs_in (stream_at v log_key)) (s / 8)
  in_log n s below at =
      let k = n / 8 in
      let i = n % 8 in
      let inside : k < place.pages = omega (arith, below, sized) in
      let number : 8 * k + i ≡ n = omega arith in
      let page = ring.pages k inside in
      let row : log_sector place n ≡ Some (page.0 + i) = ap (log_sector place) (sym number) ∙ page.1.row i (omega arith) in
      let same : s ≡ page.0 + i = there_is (ltb (512 * n) place.initialised) place.device s (page.0 + i) (sym (ap (λ (o : Option ℕ). if ltb (512 * n) place.initialised then sector_below place.device o else None) at) ∙ row) in
      let begun = page.1.begun in
      let first = page_at place k page.0 page.1 in
      let cluster : page_first place k / 8 ≡ s / 8 = omega (arith, same, begun, first) in
      subst (λ (x : ℕ). 0 < uses (runs_in (stream_at v log_key)) x) cluster (lies k inside)

  pub runs_lie : RunsLieInLog place v
  runs_lie = by_number (λ s. 0 < uses (runs_in (stream_at v log_key)) (s / 8)) place.runs in_log
