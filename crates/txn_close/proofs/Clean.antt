-- What a crash leaves after a last checkpoint is a clean log.
use Rattle.std.proofs.Common.{◌≡◌, subst, ℕ, zero, suc, ◌+◌, ◌-◌, ◌^◌, ◌<◌, ◌≤◌, Bool, true, false, cond, List, [], ◌∷◌, length, take, drop, Option, Some, None, Result, Ok, Err, refl, sym, ap, ◌∙◌, inl, inr, arith}
use Rattle.std.specs.Prelude.{IfSome, OnOk, unwrap_or, nat_lt, nat_le}
use Rattle.std.specs.Option.{option_map}
use Rattle.std.proofs.lemmas.Bool.Decides.{nat_tests}
use Rattle.disk_model.specs.Sectors.{sector_of}
use Rattle.fixup_record.specs.Protecting.{protected_bytes}
use Rattle.sector_device.specs.Disks.{Disk, MayLeave, SeesDisk, settled}
use Rattle.sector_device.specs.Moments.{Changes, MayLeaveNow}
use Rattle.log_model.specs.declared.entry.Entry.{Entry}
use Rattle.log_page.specs.declared.restart.Restart.{Restart}
use Rattle.log_page.specs.Places.{sequence_bits}
use Rattle.log_page.specs.declared.places.LogPlace.{LogPlace}
use Rattle.log_page.specs.LiveLogs.{live_log}
use Rattle.log_page.specs.Restarts.{restart_spelling}
use Rattle.found_stays.specs.log_area.declared.restart.SentRestart.{SentRestart}
use Rattle.found_stays.specs.log_area.Areas.{LogAreaOf, lap_at, number_of, restart_sector, sent_word, page_to_send, naming_page, named_area, synced_area}
use Rattle.found_stays.specs.log_area.Calls.{IsSent}
use Rattle.found_stays.proofs.log_area.Numbering.{lsn_room}
use Rattle.store_model.specs.Rings.{Ring, Restarts, entries_on, synced_places}
use Rattle.store_model.specs.Stores.{Store}
use Rattle.store_claims.specs.Windows.{StoreWindow}
use Rattle.found_stays.specs.ring_laws.Numbers.{LogSession, lsn_of_page}
use Rattle.found_stays.specs.ring_laws.PageBytes.{raw_page}
use Rattle.found_stays.specs.ring_laws.RestartPages.{restart_written, restart_synced}
use Rattle.found_stays.specs.area_laws.Standing.{Stands, freed_to}
use Rattle.found_stays.specs.area_laws.Laws.{MayName, RestartsStandAfter}
use Rattle.found_stays.proofs.area_laws.Joined.{syncs_all}
use Rattle.found_stays.proofs.area_laws.Naming.{restart_names}
use Rattle.found_stays.proofs.area_laws.Reading.{is_first, number_is, is_read}
use Rattle.found_stays.specs.txn_model.Values.{StoreFacts}
use Rattle.found_stays.specs.txn_model.Calls.{front_lsn, MayNameNoted, named_facts, synced_facts}
use Rattle.found_stays.specs.txn_state.States.{facts_of}
use Rattle.found_stays.specs.txn_laws.Standing.{StandsBehind, session_of}
use Rattle.found_stays.specs.txn_laws.Windows.{HasWindow}
use Rattle.found_stays.specs.txn_laws.Laws.{SendsNaming, SyncsNow}
use Rattle.found_stays.proofs.txn_laws.Naming.{front_is_oldest}
use Rattle.found_stays.specs.txn_core.Turns.{HasNext}
use Rattle.found_stays.specs.txn_core.Seen.{Seen}
use Rattle.txn_close.specs.declared.fault.CloseFault.{CloseFault}
use Rattle.txn_close.specs.Rests.{IsDrained}
use Rattle.txn_close.specs.Passing.{Goes}
use Rattle.txn_close.specs.Ends.{written_ok, EndsBy, EndsClean, IsLeftClean, LeavesClean}

-- ---- lists

no_items : (xs : List (List Entry)) → length xs ≡ 0 → xs ≡ []
no_items [] is = refl
no_items (x ∷ xs) is = absurd (let e = is in omega (arith, e))

none_on : (n : ℕ) → entries_on (take n []) ≡ []
none_on zero = refl
none_on (suc n) = refl

-- ---- the page that is sent

unsent_again : (o : Option SentRestart) (lsn : ℕ) → o ≡ None → IfSome o (λ x. x.page.oldest ≡ lsn)
unsent_again (Some x) lsn is = absurd cc
unsent_again None lsn is = tt

pub made_page : (a : LogAreaOf) (oldest : ℕ) (clean : Bool) → a.sent ≡ None → page_to_send a oldest clean ≡ naming_page a oldest clean
made_page a oldest clean is = ap (λ (o : Option SentRestart). page_to_send (record a { sent = o }) oldest clean) is

-- an empty page has room for the least entry
fits_in : (free : ℕ) → nat_lt 0x40 free ≡ false → 0x40 ≤ free → nat_le (free + 0x58) 4096 ≡ true
fits_in free none above = grind (arith, nat_tests, none, above)

own_lap : (f : StoreFacts) → IsDrained f → 0x40 ≤ f.log.free → HasNext f.log → lap_at f.log f.log.sealed < 2 ^ sequence_bits f.log.pages
own_lap f d above next = subst (λ (t : Bool). lap_at f.log (cond t f.log.sealed (f.log.sealed + 1)) < 2 ^ sequence_bits f.log.pages) (fits_in f.log.free d.empty above) next.lap

-- ---- behind it

module _ {D : Type 0} (gives : D → Option (List (List ℕ))) (changes : D → Changes) (moment : D → ℕ) (f : StoreFacts) (word : ℕ) (old mid new : D) (d : IsDrained f) (noted : f.noted ≡ Some f.log.sealed) (unsent : f.log.sent ≡ None)
    (next : HasNext f.log) (sees : SeesDisk (gives old) (changes old).disk) (sent : SendsNaming gives changes moment f.log f.log.sealed true word (Ok tt) old mid) (syncs : SyncsNow changes moment (Ok tt) mid new) (disk : Disk)
    (is : (changes old).disk ≡ Some disk) (m : Store) (h : StandsBehind f disk m) where
  abbrev s : LogSession
  s = session_of f h.lap

  abbrev oldest : ℕ
  oldest = front_lsn f.log f.log.sealed

  abbrev area : LogAreaOf
  area = named_area oldest f.log

  may_noted : MayNameNoted f f.log.sealed
  may_noted = record { noted = noted; paid = λ b. ((d.plain b).paid, (d.plain b).past); durable = (let e = d.synced in omega (arith, e)); unnamed = d.unnamed }

  small : oldest < 2 ^ 64
  small = let ring = h.stands.ring.area in let room = lsn_room f.log f.log.sealed 0x40 ring.some ring.few (own_lap f d ring.above next) (omega arith) in omega (arith, room)

  may_name : MayName f.log h.restarts h.fields oldest true
  may_name = record {
    synced = d.unnamed;
    place = front_is_oldest f f.log.sealed disk m h may_noted;
    lap = next.lap;
    again = unsent_again f.log.sent oldest unsent;
    small = small;
    few = (let few = next.opens in omega (arith, few));
    newer = λ x said. inl next.opens;
  }

  named : RestartsStandAfter changes s area h.ring (restart_written h.restarts) h.pages h.fields (suc h.restarts.sure) (page_to_send f.log oldest true) mid
  named = restart_names gives changes moment s f.log h.ring h.restarts h.pages h.fields disk oldest true word old mid (record { known = is; sees = sees }) h.stands may_name sent

  abbrev ring : Ring
  ring = record h.ring { oldest = freed_to area; synced = h.ring.done; places = synced_places h.ring.places }

  abbrev pages : List (List Entry)
  pages = drop (freed_to area - area.oldest) h.pages

  abbrev restarts : Restarts
  restarts = restart_synced (restart_written h.restarts named.places)

  stands : Stands s (synced_area area) ring restarts pages named.told (settled named.disk)
  stands = syncs_all s area h.ring (restart_written h.restarts named.places) h.pages named.told named.disk named.stands

  there : (changes new).disk ≡ Some (settled named.disk)
  there = syncs.ok ∙ ap (option_map settled) named.known

  number : number_of f.log oldest ≡ f.log.sealed
  number = number_is s f.log h.ring h.restarts h.pages h.fields disk h.stands f.log.sealed

  first : oldest ≡ lsn_of_page s (freed_to area)
  first = is_first s f.log h.ring h.restarts h.pages h.fields disk h.stands f.log.sealed ∙ ap (lsn_of_page s) (sym number)

  none_left : pages ≡ []
  none_left =
      no_items pages
      (stands.ring.counted ∙ ap (λ (t : Bool). f.log.sealed - number_of f.log oldest + cond {A = ℕ} t 1 0) d.empty ∙ (let e = number in omega (arith, e)))

  pub left_clean : (count : ℕ) (image : List (List ℕ)) → MayLeaveNow count (changes new) image → IsLeftClean f.place (sector_of image)
  left_clean count image left =
      let may_leave : MayLeave count (settled named.disk) image = subst (λ (o : Option Disk). IfSome o (λ e. MayLeave count e image)) there left in
      let read = is_read s (synced_area area) ring restarts pages named.told (settled named.disk) stands count image may_leave in
      record {
        restart = naming_page f.log oldest true;
        chosen = (
            elim read.1.is [
              | inl sure ↦ sure.1 ∙ named.said
              | inr begun ↦ absurd (let e = begun.0 in cc)
            ]
            ) ∙ ap (λ (r : Restart). Some r) (made_page f.log oldest true unsent);
        clean = refl;
        empty =
            ap (live_log f.place.pages (raw_page f.place (sector_of image))) first
            ∙ read.0.reads
            ∙ ap (λ (ps : List (List Entry)). record { entries = entries_on (take read.0.count ps); foreign = None }) none_left
            ∙ ap (λ (es : List Entry). record { entries = es; foreign = None }) (none_on read.0.count);
      }

-- ---- what the last calls did

named_page : (f : StoreFacts) → f.noted ≡ Some f.log.sealed → unwrap_or f.noted 0 ≡ f.log.sealed
named_page f noted = ap (λ (o : Option ℕ). unwrap_or o 0) noted

module _ {D : Type 0} (gives : D → Option (List (List ℕ))) (changes : D → Changes) (moment : D → ℕ) (f : StoreFacts) (old new : D) (noted : f.noted ≡ Some f.log.sealed) (unsent : f.log.sent ≡ None) (ends : EndsBy gives changes moment f old new) where
  sends : SendsNaming gives changes moment f.log f.log.sealed true ends.word (Ok tt) old ends.mid
  sends = subst (λ (n : ℕ). SendsNaming gives changes moment f.log n true ends.word (Ok tt) old ends.mid) (named_page f noted) ends.sends

  pub sends_clean : IsSent gives changes moment None (restart_sector f.log) (protected_bytes (restart_spelling (naming_page f.log (front_lsn f.log f.log.sealed) true))) ends.word (written_ok tt) old ends.mid
  sends_clean =
      subst (λ (r : Restart). IsSent gives changes moment None (restart_sector f.log) (protected_bytes (restart_spelling r)) ends.word (written_ok tt) old ends.mid) (made_page f.log (front_lsn f.log f.log.sealed) true unsent)
      (subst (λ (o : Option ℕ). IsSent gives changes moment o (restart_sector f.log) (protected_bytes (restart_spelling (page_to_send f.log (front_lsn f.log f.log.sealed) true))) ends.word (written_ok tt) old ends.mid) (ap sent_word unsent) sends)

  pub clean_leaves : IsDrained f → HasNext f.log → SeesDisk (gives old) (changes old).disk → (w : StoreWindow) → HasWindow (changes old) f w → (count : ℕ) (image : List (List ℕ)) → MayLeaveNow count (changes new) image → IsLeftClean f.place (sector_of image)
  clean_leaves d next sees w has count image left =
      left_clean gives changes moment f ends.word old ends.mid new d noted unsent next sees sends ends.syncs has.0 has.1 has.2 has.3 count image left

-- the images that are left behind calls before are those behind them all
pub leaves_behind : {D : Type 0} (count moment : D → ℕ) (changes : D → Changes) (base : StoreFacts) (old mid : Seen D) (device : D) → Goes count moment changes base old mid → LeavesClean count changes mid device → LeavesClean count changes old device
leaves_behind count moment changes base old mid device goes leaves w has image left =
    let x = goes.passes.steps w has in
    subst (λ (p : LogPlace). IsLeftClean p (sector_of image)) goes.passes.place (leaves x.0 x.1 image left)

-- ---- by what the calls answer

module _ {D : Type 0} (gives : D → Option (List (List ℕ))) (count moment : D → ℕ) (changes : D → Changes) (old mid new : Seen D) (d : IsDrained (facts_of mid.state)) (noted : (facts_of mid.state).noted ≡ Some (facts_of mid.state).log.sealed)
    (unsent : mid.state.log.sent ≡ None) where
  pub then_ends_clean : (result : Result (Unit {0}) CloseFault) → OnOk result (EndsBy gives changes moment (facts_of mid.state) mid.device new.device)
      → OnOk result (facts_of new.state ≡ synced_facts (named_facts (unwrap_or mid.state.noted 0) (facts_of mid.state))) → OnOk result (EndsClean gives changes moment new)
  then_ends_clean (Ok tt) ends is = record {
    log = mid.state.log;
    before = mid.device;
    mid = ends.mid;
    word = ends.word;
    sends = sends_clean gives changes moment (facts_of mid.state) mid.device new.device noted unsent ends;
    syncs = ends.syncs;
    after = ap (λ (f : StoreFacts). f.log) is ∙ ap (λ (n : ℕ). synced_area (named_area (front_lsn mid.state.log n) mid.state.log)) (named_page (facts_of mid.state) noted);
  }
  then_ends_clean (Err e) ends is = tt

  pub then_leaves_clean : (base : StoreFacts) (result : Result (Unit {0}) CloseFault) → SeesDisk (gives mid.device) (changes mid.device).disk → Goes count moment changes base old mid → OnOk result (EndsBy gives changes moment (facts_of mid.state) mid.device new.device)
      → OnOk result (HasNext mid.state.log) → OnOk result (LeavesClean count changes old new.device)
  then_leaves_clean base (Ok tt) sees goes ends next =
      leaves_behind count moment changes base old mid new.device goes (λ w has image left. clean_leaves gives changes moment (facts_of mid.state) mid.device new.device noted unsent ends d next sees w has (count new.device) image left)
  then_leaves_clean base (Err e) sees goes ends next = tt

pub leaves_then : {D : Type 0} (count moment : D → ℕ) (changes : D → Changes) (base : StoreFacts) (old mid : Seen D) (device : D) (result : Result (Unit {0}) CloseFault) → Goes count moment changes base old mid → OnOk result (LeavesClean count changes mid device)
    → OnOk result (LeavesClean count changes old device)
leaves_then count moment changes base old mid device (Ok tt) goes leaves = leaves_behind count moment changes base old mid device goes leaves
leaves_then count moment changes base old mid device (Err e) goes leaves = tt
