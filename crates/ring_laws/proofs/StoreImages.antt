-- What a crash leaves of the log of a store is an image of it.
use Rattle.std.proofs.Common.{◌≡◌, ℕ, zero, suc, ◌-◌, ◌≤◌, List, [], ◌∷◌, length, take, drop, Option, Some, None, refl, sym, ap, ◌∙◌, inl, inr, arith}
use Rattle.store_model.specs.log_model.declared.entry.Entry.{Entry}
use Rattle.log_reading.specs.log_page.declared.restart.Restart.{Restart}
use Rattle.log_reading.specs.log_page.RecordPages.{Reading}
use Rattle.log_reading.specs.log_page.LiveLogs.{live_log}
use Rattle.store_model.specs.sector_device.Disks.{Disk}
use Rattle.store_model.specs.Geometry.{SectorBytes, CanLeave}
use Rattle.store_model.specs.Stores.{Store, list_of}
use Rattle.store_model.specs.Rings.{Ring, Restarts, chosen_page, read_to, entries_on, read_from, ReadsList, IsLeft}
use Rattle.store_model.specs.Rings.ReadsList.{from_oldest, from_noted}
use Rattle.store_model.proofs.Rings.{images_are_left}
use Rattle.ring_laws.specs.Numbers.{LogSession, place_of_page, lsn_of_page}
use Rattle.ring_laws.specs.PageBytes.{raw_page}
use Rattle.ring_laws.specs.RestartPages.{ChoosesRestart}
use Rattle.ring_laws.specs.Laws.{ReadsNumbers}
use Rattle.ring_laws.specs.StoreLogs.{LogNumbers, HoldsLog, LogIsLeft}
use Rattle.ring_laws.proofs.RingFacts.{some_same}
use Rattle.ring_laws.proofs.RingReads.{reads_numbers}
use Rattle.ring_laws.proofs.RestartCalls.{chooses}

-- behind all pages stands none
none_behind : (n k : ℕ) (pages : List (List Entry)) → length pages ≤ k → entries_on (take n (drop k pages)) ≡ []
none_behind zero k [] le = nothing k
  where
    nothing : (k : ℕ) → entries_on (take 0 (drop k [])) ≡ []
    nothing zero = refl
    nothing (suc k) = refl
none_behind (suc n) zero [] le = refl
none_behind (suc n) (suc k) [] le = refl
none_behind n zero (p ∷ pages) le = absurd (omega (arith, le))
none_behind n (suc k) (p ∷ pages) le = none_behind n k pages (omega (arith, le))

module _ (place : ℕ → ℕ) (r : Ring) (q : Restarts) (noted : ℕ) (pages : List (List Entry)) (image restarts : ℕ → Option ℕ) where
  old_list : (l : List Entry) → ReadsList place r q noted pages image restarts l → chosen_page restarts ≡ Some q.sure → l ≡ read_from place r pages image r.oldest
  old_list l (from_oldest e) is = refl
  old_list l (from_noted begun e) is = absurd (omega (arith, some_same q.sure (suc q.sure) (sym is ∙ e)))

  new_list : (l : List Entry) → ReadsList place r q noted pages image restarts l → chosen_page restarts ≡ Some (suc q.sure) → l ≡ read_from place r pages image noted
  new_list l (from_oldest e) is = absurd (omega (arith, some_same (suc q.sure) q.sure (sym is ∙ e)))
  new_list l (from_noted begun e) is = refl

module _ (s : LogSession) (l : LogNumbers) (store : Store) (disk : Disk) (h : HoldsLog s l store disk) (image : SectorBytes) (left : CanLeave disk image) (sectors : SectorBytes) (may : CanLeave store.disk sectors) where
  ring : ReadsNumbers s l.ring l.pages image
  ring = reads_numbers s l.ring l.check l.pages disk h.ring image left

  page : ChoosesRestart s.place l.restarts l.fields image
  page = chooses s.place l.restarts l.word l.fields disk h.restarts image left

  is_left : IsLeft (place_of_page s) l.ring l.restarts l.noted l.pages store sectors ring.numbers page.restarts
  is_left = images_are_left (place_of_page s) l.ring l.restarts l.noted l.pages store h.kept sectors may ring.numbers page.restarts ring.may page.may

  abbrev reading : List Entry → Reading
  reading entries = record { entries = entries; foreign = None }

  read_at : (restart : Restart) (start : ℕ) → restart.oldest ≡ lsn_of_page s start → l.ring.oldest ≤ start → list_of store is_left.left ≡ read_from (place_of_page s) l.ring l.pages ring.numbers start
      → live_log s.place.pages (raw_page s.place image) restart.oldest ≡ reading (list_of store is_left.left)
  read_at restart start names low is = ap (live_log s.place.pages (raw_page s.place image)) names ∙ ring.reads start low ∙ ap reading (sym is)

  by_noted : chosen_page page.restarts ≡ Some (suc l.restarts.sure) → list_of store is_left.left ≡ read_from (place_of_page s) l.ring l.pages ring.numbers l.noted
  by_noted is = new_list (place_of_page s) l.ring l.restarts l.noted l.pages ring.numbers page.restarts (list_of store is_left.left) is_left.reads is

  pub log_is_left : LogIsLeft s l store image sectors
  log_is_left = elim page.is [
    | inl sure ↦ record {
      left = is_left.left;
      sectors_are = is_left.sectors_are;
      may = is_left.may;
      restart = h.names.sure;
      chosen = sure.1 ∙ h.names.sure_is;
      of_log = inl h.names.sure_is;
      reads = read_at h.names.sure l.ring.oldest h.names.oldest (omega arith) (old_list (place_of_page s) l.ring l.restarts l.noted l.pages ring.numbers page.restarts (list_of store is_left.left) is_left.reads sure.0);
    }
    | inr next ↦ (let f = h.restarts.says next.0 in record {
      left = is_left.left;
      sectors_are = is_left.sectors_are;
      may = is_left.may;
      restart = f.0;
      chosen = next.2 ∙ f.1;
      of_log = inr (next.0, f.1, λ behind. by_noted next.1 ∙ none_behind (read_to (place_of_page s) ring.numbers l.noted l.ring.size - l.noted) (l.noted - l.ring.oldest) l.pages (omega (arith, behind)));
      reads = read_at f.0 l.noted (h.names.next f.0 next.0 f.1) (h.kept.low (h.kept.begun next.0)) (by_noted next.1);
    })
  ]
