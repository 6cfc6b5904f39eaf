-- The ring and the restart pages stand after each call.
use Rattle.std.proofs.Common.{◌≡◌, ℕ, ◌+◌, ◌-◌, ◌^◌, ◌<◌, ◌≤◌, Bool, true, cond, List, [], length, drop, Option, Some, None, Ok, Err, refl, sym, ap, ◌∙◌, subst, inl, inr, arith}
use Rattle.std.proofs.lemmas.Bool.{cases_Bool}
use Rattle.host_base.specs.declared.outside.Failed.{Failed}
use Rattle.ring_laws.proofs.fixup_record.Protected.{length-protected}
use Rattle.log_area.specs.sector_device.Disks.{Disk, IsSized, IsBetween, put, settled, seen}
use Rattle.log_area.specs.sector_device.Moments.{Changes}
use Rattle.log_area.specs.sector_device.Sectors.{sectors_of}
use Rattle.log_area.specs.sector_device.WholeSectors.{length-sectors_of}
use Rattle.ring_laws.specs.log_model.declared.entry.Entry.{Entry}
use Rattle.ring_laws.specs.log_model.Entries.{entry_size, FitsEntry}
use Rattle.ring_laws.specs.log_page.Places.{first_page, sequence_bits, lap_of}
use Rattle.ring_laws.specs.log_page.LiveLogs.{said_lsn}
use Rattle.ring_laws.specs.log_page.Restarts.{is_blank}
use Rattle.ring_laws.specs.log_page.PageSpellings.{page_spelling, MakePage}
use Rattle.ring_laws.proofs.log_page.PageAgain.{page_size}
use Rattle.ring_laws.specs.log_reading.Rings.{IsRingPlace}
use Rattle.ring_laws.specs.store_model.Rings.{Ring, Restarts, synced_places}
use Rattle.ring_laws.specs.Numbers.{LogSession, place_of_page, lap_of_page, IsInRing}
use Rattle.ring_laws.specs.PageBytes.{page_sector, raw_page, IsStill, AreAlike, spelled_page}
use Rattle.ring_laws.specs.RingPages.{entries_of_page, first_ring, page_written, page_sent}
use Rattle.ring_laws.specs.RestartPages.{RestartFields, IsBelow, said_restart, found_restarts, restart_synced}
use Rattle.ring_laws.proofs.Numbering.{in_ring}
use Rattle.ring_laws.proofs.RingFacts.{has_ring}
use Rattle.ring_laws.proofs.LogSectors.{kept_by_page}
use Rattle.ring_laws.proofs.RestartCalls.{finds, restarts_kept}
use Rattle.log_area.specs.Areas.{LogAreaOf, new_area, is_filling, lap_at, next_number, next_at, next_lsn, appended, sealed_area, written_area, synced_area}
use Rattle.area_laws.specs.Standing.{StandsRestarts, Stands, IsOlder, pages_with, freed_to, StandsRing}
use Rattle.area_laws.specs.Laws.{IsKnown, SendsNext, StandsAfter}
use Rattle.area_laws.proofs.Keeps.{HasRoom, small_entry, is_placed}
use Rattle.area_laws.proofs.Rising.{next_rises, append_before, lap_below}
use Rattle.ring_laws.proofs.log_page.Readings.{size_some}
use Rattle.ring_laws.specs.log_page.declared.restart.Restart.{Restart}
use Rattle.std.specs.Prelude.{IfSome}
use Rattle.area_laws.proofs.Appending.{ring_appends}
use Rattle.area_laws.proofs.Calling.{held_here, ring_starts, ring_seals, ring_writes, ring_sends, sync_stands, ring_stays}
use Rattle.area_laws.proofs.Naming.{same_restarts, restarts_synced}

pub starts : (s : LogSession) (restart opens : ℕ) (fields : RestartFields) (disk : Disk) → IsRingPlace s.place → 1 ≤ s.lap → s.lap < 2 ^ sequence_bits s.place.pages → restart < 2 → IsSized disk
    → ((k : ℕ) → k < s.place.pages → IsStill s.place disk k) → ((k lsn : ℕ) → IsInRing s.place k → said_lsn (raw_page s.place (seen disk) k) ≡ Some lsn → lap_of s.place.pages lsn < s.lap)
    → said_restart (raw_page s.place (seen disk) (1 - restart)) ≡ fields (1 - restart) → IsBelow (said_restart (raw_page s.place (seen disk) restart)) (fields (1 - restart))
    → (fields (1 - restart) ≡ None → is_blank (raw_page s.place (seen disk) (1 - restart)) ≡ true) → ((c : Restart) → fields (1 - restart) ≡ Some c → lap_of s.place.pages c.current < s.lap)
    → Stands s (new_area s.place s.lap restart opens) (first_ring s) (found_restarts restart) [] fields disk
starts s restart opens fields disk lies begun less two sized still low says below blank early =
    let some = lies.ring in
    record {
      ring = ring_starts s restart opens disk lies begun less (omega arith) sized (λ k ring. still k ring.inside) low;
      restarts = record {
        restarts = finds s.place disk restart fields lies sized two (λ k few. still k (omega arith)) says below blank;
        done = refl;
        place = omega arith;
        said = tt;
        older = first_older (fields (1 - restart)) early;
        sent_before = tt;
        names = tt;
      };
    }
  where
    first_older : (o : Option Restart) → ((c : Restart) → o ≡ Some c → lap_of s.place.pages c.current < s.lap) → IfSome o (IsOlder (new_area s.place s.lap restart opens))
    first_older None low = tt
    first_older (Some c) low = inl (lap_below s c.current lies (low c refl))

append_rises : (s : LogSession) (a : LogAreaOf) (r : Ring) (pages : List (List Entry)) (disk : Disk) (e : Entry) → StandsRing s a r pages disk → FitsEntry e → HasRoom a (entry_size e) → next_lsn a 0x58 ≤ next_lsn (appended e a) 0x58
append_rises s a r pages disk e h fit room =
    let some = size_some e in
    let p = is_placed a (entry_size e) h.area (small_entry e fit) (omega arith) room in
    next_rises s a h.session h.ring.lies h.area.above h.area.below (appended e a).ring (next_at a (entry_size e) + entry_size e) (next_number a (entry_size e)) (omega (arith, p.above)) (append_before a (entry_size e))

pub appends : (s : LogSession) (a : LogAreaOf) (r : Ring) (q : Restarts) (pages : List (List Entry)) (fields : RestartFields) (disk : Disk) (e : Entry) → Stands s a r q pages fields disk → FitsEntry e → e.lsn ≡ next_lsn a (entry_size e)
    → lap_at a (next_number a (entry_size e)) < 2 ^ sequence_bits a.pages → HasRoom a (entry_size e) → Stands s (appended e a) r q (pages_with e a pages) fields disk
appends s a r q pages fields disk e h fit is lap room = record {
  ring = ring_appends s a r pages disk e h.ring fit is lap room;
  restarts = same_restarts s a (appended e a) q fields disk disk refl refl refl refl refl refl (append_rises s a r pages disk e h.ring fit room) h.restarts.restarts h.restarts;
}

pub seals : (s : LogSession) (a : LogAreaOf) (r : Ring) (q : Restarts) (pages : List (List Entry)) (fields : RestartFields) (disk : Disk) → Stands s a r q pages fields disk → Stands s (sealed_area a) r q pages fields disk
seals s a r q pages fields disk h = record {
  ring = ring_seals s a r pages disk h.ring;
  restarts = elim (cases_Bool (is_filling a)) [
    | inl filling ↦
        subst (λ (b : LogAreaOf). StandsRestarts s b q fields disk) (sym (ap (λ (b : Bool). cond b (record a { free = 64; sealed = a.sealed + 1 }) a) filling))
        (same_restarts s a (record a { free = 64; sealed = a.sealed + 1 }) q fields disk disk refl refl refl refl refl refl
        (next_rises s a h.ring.session h.ring.ring.lies h.ring.area.above h.ring.area.below a.ring 64 (a.sealed + 1) (omega arith) (inl (omega arith))) h.restarts.restarts h.restarts)
    | inr empty ↦ subst (λ (b : LogAreaOf). StandsRestarts s b q fields disk) (sym (ap (λ (b : Bool). cond b (record a { free = 64; sealed = a.sealed + 1 }) a) empty)) h.restarts
  ];
}

pub syncs_all : (s : LogSession) (a : LogAreaOf) (r : Ring) (q : Restarts) (pages : List (List Entry)) (fields : RestartFields) (disk : Disk) → Stands s a r q pages fields disk
    → Stands s (synced_area a) (record r { oldest = freed_to a; synced = r.done; places = synced_places r.places }) (restart_synced q) (drop (freed_to a - a.oldest) pages) fields (settled disk)
syncs_all s a r q pages fields disk h = record { ring = sync_stands s a r pages disk h.ring; restarts = restarts_synced s a q fields disk h.restarts }

part_alike : (s : LogSession) (from to low high : ℕ) (disk now : Disk) → from ≤ low → high ≤ to → AreAlike s.place from to disk now → AreAlike s.place low high disk now
part_alike s from to low high disk now le less alike = record {
  durable = λ k i few lt eight. alike.durable k i (omega (arith, le, few)) (omega (arith, less, lt)) eight;
  written = λ k i few lt eight. alike.written k i (omega (arith, le, few)) (omega (arith, less, lt)) eight;
}

pub stays : (s : LogSession) (a : LogAreaOf) (r : Ring) (q : Restarts) (pages : List (List Entry)) (fields : RestartFields) (disk now : Disk) → Stands s a r q pages fields disk → AreAlike s.place 0 s.place.pages disk now → Stands s a r q pages fields now
stays s a r q pages fields disk now h alike =
    let some = h.ring.ring.lies.ring in
    record {
      ring = ring_stays s a r pages disk now h.ring (part_alike s 0 s.place.pages first_page s.place.pages disk now (omega arith) (omega arith) alike);
      restarts = same_restarts s a a q fields disk now refl refl refl refl refl refl (omega arith)
          (restarts_kept s.place q _ fields disk h.restarts.restarts now (part_alike s 0 s.place.pages 0 2 disk now (omega arith) (omega arith) alike)) h.restarts;
    }

-- ---- a page is sent

length-spelled : (s : LogSession) (n : ℕ) (entries : List Entry) (word : ℕ) → MakePage s.place.pages (lap_of_page s n) (place_of_page s n) entries → length (spelled_page s n entries word) ≡ 4096
unfolding spelled_page
length-spelled s n entries word made = length-protected (page_spelling s.place.pages (lap_of_page s n) (place_of_page s n) entries) word ∙ page_size s.place.pages (lap_of_page s n) (place_of_page s n) entries made

-- the restart pages aren't touched
restarts_apart : (s : LogSession) (a : LogAreaOf) (r : Ring) (q : Restarts) (pages : List (List Entry)) (fields : RestartFields) (disk now : Disk) (word : ℕ) → Stands s a r q pages fields disk → a.done < a.sealed
    → IsBetween disk (put (page_sector s.place (place_of_page s r.done)) (sectors_of (spelled_page s r.done (entries_of_page r pages r.done) word)) disk) now → AreAlike s.place 0 2 disk now
restarts_apart s a r q pages fields disk now word h lt between =
    let lies = h.ring.ring.lies in
    let some = lies.ring in
    let there = in_ring s (has_ring s.place lies) r.done in
    let size = length-spelled s r.done (entries_of_page r pages r.done) word (held_here s a r pages disk h.ring lt).made in
    let eight : length (sectors_of (spelled_page s r.done (entries_of_page r pages r.done) word)) ≡ 8 = length-sectors_of (spelled_page s r.done (entries_of_page r pages r.done) word) ∙ omega arith in
    kept_by_page s.place 0 2 (place_of_page s r.done) (sectors_of (spelled_page s r.done (entries_of_page r pages r.done) word)) disk now lies (omega arith) there.inside eight (inr (omega (arith, there.begun))) between

pub writes : {D : Type 0} (gives : D → Option (List (List ℕ))) (changes : D → Changes) (moment : D → ℕ) (s : LogSession) (a : LogAreaOf) (r : Ring) (q : Restarts) (pages : List (List Entry)) (fields : RestartFields) (disk : Disk) (word : ℕ) (old new : D)
    → IsKnown gives changes old disk → Stands s a r q pages fields disk → a.done < a.sealed → SendsNext gives changes moment a word (Ok tt) old new → StandsAfter changes s (written_area a) (page_written r) q pages fields new
writes gives changes moment s a r q pages fields disk word old new known h lt sent =
    let after = ring_writes gives changes moment s a r pages disk word old new known h.ring lt sent in
    record {
      disk = after.now;
      known = after.known;
      places = after.places;
      stands = record {
        ring = after.stands;
        restarts = same_restarts s a (written_area a) q fields disk after.now refl refl refl refl refl refl (omega arith)
            (restarts_kept s.place q _ fields disk h.restarts.restarts after.now (restarts_apart s a r q pages fields disk after.now word h lt after.between)) h.restarts;
      };
    }

pub sends : {D : Type 0} (gives : D → Option (List (List ℕ))) (changes : D → Changes) (moment : D → ℕ) (fault : Failed) (s : LogSession) (a : LogAreaOf) (r : Ring) (q : Restarts) (pages : List (List Entry)) (fields : RestartFields) (disk : Disk) (word : ℕ)
    (old new : D) → IsKnown gives changes old disk → Stands s a r q pages fields disk → a.done < a.sealed → SendsNext gives changes moment a word (Err fault) old new
    → StandsAfter changes s (record a { check = Some word }) (page_sent r) q pages fields new
sends gives changes moment fault s a r q pages fields disk word old new known h lt sent =
    let after = ring_sends gives changes moment fault s a r pages disk word old new known h.ring lt sent in
    record {
      disk = after.now;
      known = after.known;
      places = after.places;
      stands = record {
        ring = after.stands;
        restarts = same_restarts s a (record a { check = Some word }) q fields disk after.now refl refl refl refl refl refl (omega arith)
            (restarts_kept s.place q _ fields disk h.restarts.restarts after.now (restarts_apart s a r q pages fields disk after.now word h lt after.between)) h.restarts;
      };
    }
