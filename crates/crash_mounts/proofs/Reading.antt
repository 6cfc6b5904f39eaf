-- A mount reads the list by which an image recovers.
use Rattle.std.proofs.Common.{◌≡◌, ℕ, ◌<◌, Bool, true, false, cond, List, [], Option, Some, Result, Ok, sym, ap, ap₂, ◌∙◌, subst, inl, inr, arith}
use Rattle.std.specs.Option.{option_or}
use Rattle.std.proofs.lemmas.Bool.{cases_Bool}
use Rattle.host_base.specs.Answers.{◌>>=◌, needs}
use Rattle.disk_model.specs.declared.block.Block.{Block}
use Rattle.disk_model.specs.Content.{Content, content_of}
use Rattle.record_model.proofs.Answering.{needs_from_ok}
use Rattle.log_model.specs.declared.entry.Entry.{Entry}
use Rattle.log_model.specs.Logs.{first_misplaced}
use Rattle.log_page.specs.declared.places.LogPlace.{LogPlace}
use Rattle.log_page.specs.declared.restart.Restart.{Restart}
use Rattle.log_page.specs.RecordPages.{Reading}
use Rattle.log_page.specs.LiveLogs.{live_log}
use Rattle.log_page.specs.Restarts.{is_clean}
use Rattle.log_reading.specs.declared.fault.LogRefusal.{LogRefusal}
use Rattle.log_reading.specs.declared.fault.LogRefusal.TheVariants.{ForeignLog}
use Rattle.log_reading.specs.Fronts.{chosen_in}
use Rattle.log_reading.specs.LogPages.{page_in}
use Rattle.log_reading.specs.Rings.{IsRingPlace}
use Rattle.txn_mount.specs.log_recovery.LogStates.{LogState, own_entries, entries_by, live_entries_in}
use Rattle.txn_mount.specs.log_recovery.Writing.{to_write_in}
use Rattle.mount_laws.proofs.image_open.Alike.{to_write_alike}
use Rattle.member_states.specs.ring_laws.PageBytes.{raw_page}
use Rattle.member_states.proofs.ring_laws.LogSectors.{read_is_raw}
use Rattle.store_model.specs.Geometry.{SectorBytes}
use Rattle.store_claims.specs.Windows.{StoreWindow}
use Rattle.member_states.specs.txn_model.Values.{is_own}
use Rattle.member_states.specs.txn_laws.Windows.{RecoversWithin}
use Rattle.txn_mount.proofs.Finding.{front_parts}
use Rattle.txn_mount.proofs.Frames.{live_alike}
use Rattle.txn_mount.proofs.Mountable.{stores_mount_law}
use Rattle.txn_mount.proofs.Reading.{all_ok, read_log}
use Rattle.crash_mounts.specs.Reading.{ReadsList}

same_list : (x y : List Entry) → ◌≡◌ {A = Result (List Entry) LogRefusal} (Ok x) (Ok y) → x ≡ y
same_list x y is = cc

-- a log that isn't closed is read as its entries
not_closed : (c : Content) (place : LogPlace) (r : Restart) (log : List Entry) (clean : Bool)
    → (cond clean (Ok []) (needs r.own (ForeignLog r.current) >>= λ _. own_entries (live_log place.pages (page_in c place) r.oldest) place.clusters)) ≡ Ok log → clean ≡ false → (live_log place.pages (page_in c place) r.oldest).entries ≡ log
not_closed c place r log true is unclosed = absurd cc
not_closed c place r log false is unclosed =
    let own = needs_from_ok r.own _ (λ _. own_entries (live_log place.pages (page_in c place) r.oldest) place.clusters) log is in
    let read = live_log place.pages (page_in c place) r.oldest in
    (all_ok (option_or (first_misplaced read.entries place.clusters) read.foreign) read.entries log own.1).1

closed_read : (c : Content) (place : LogPlace) (r : Restart) (log : List Entry) (clean : Bool)
    → (cond clean (Ok []) (needs r.own (ForeignLog r.current) >>= λ _. own_entries (live_log place.pages (page_in c place) r.oldest) place.clusters)) ≡ Ok log → clean ≡ true → [] ≡ log
closed_read c place r log true is closed = same_list [] log is
closed_read c place r log false is closed = absurd cc

module _ (place : LogPlace) (kept : List Block) (w : StoreWindow) (image : SectorBytes) (x : RecoversWithin place (is_own place kept) w image) (ring : IsRingPlace place) where
  abbrev c : Content
  c = content_of image

  raw_is : (k : ℕ) → k < place.pages → page_in (content_of image) place k ≡ raw_page place image k
  raw_is k below = read_is_raw place image k ring below

  reads : (live_log place.pages (page_in c place) x.restart.oldest).entries ≡ x.list
  reads = ap (λ (r : Reading). r.entries) (live_alike place.pages (page_in c place) (raw_page place image) x.restart.oldest (λ k low below. raw_is k below) ∙ x.reads)

  chosen : chosen_in (page_in c place 0) (page_in c place 1) ≡ Some x.restart
  chosen = (let some = ring.ring in ap₂ (λ (a : List ℕ) (b : List ℕ). chosen_in a b) (raw_is 0 (omega (arith, some))) (raw_is 1 (omega (arith, some))) ∙ x.chosen)

  by_restart : (log : List Entry) → live_entries_in c place (Some x.restart) ≡ Ok log → log ≡ x.list
  unfolding entries_by
  by_restart log is = elim (cases_Bool (is_clean x.restart)) [
    | inl clean ↦ sym (closed_read c place x.restart log (is_clean x.restart) is clean) ∙ sym (x.closed clean)
    | inr unclosed ↦ sym (not_closed c place x.restart log (is_clean x.restart) is unclosed) ∙ reads
  ]

  log_is : (state : LogState) → to_write_in c place kept ≡ Ok state → state.log ≡ x.list
  log_is state is =
      let read = read_log c place kept state is in
      let front = (front_parts (page_in c place 0) (page_in c place 1) read.front read.fronted).0 ∙ chosen in
      by_restart state.log (subst (λ (r : Option Restart). live_entries_in c place r ≡ Ok state.log) front read.entries)

pub reads_list : ReadsList
reads_list place place' kept w image x ring alike far =
    let m = stores_mount_law.within place kept w image ring x far in
    (m.state, sym (to_write_alike (content_of image) place place' alike kept) ∙ m.read, log_is place kept w image x ring m.state m.read)
