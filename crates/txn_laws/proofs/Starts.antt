-- A store at its start, on a log without entries.
use Rattle.std.proofs.Common.{◌≡◌, subst, ℕ, ◌+◌, ◌-◌, ◌*◌, true, false, List, [], length, Option, Some, None, refl, sym, ap, ◌∙◌, arith}
use Rattle.std.specs.Prelude.{slice_index, IfSome}
use Rattle.std.proofs.lemmas.List.{ext_get_or, length-replicate}
use Rattle.area_laws.specs.disk_model.declared.block.Block.{Block}
use Rattle.area_laws.specs.disk_model.Sectors.{sectors}
use Rattle.area_laws.specs.disk_model.Content.{Content, content_of}
use Rattle.area_laws.specs.sector_device.Disks.{Disk, IsSettled, IsSized, seen}
use Rattle.area_laws.specs.sector_device.Moments.{Changes}
use Rattle.area_laws.specs.log_page.declared.places.LogPlace.{LogPlace}
use Rattle.area_laws.specs.log_page.declared.restart.Restart.{Restart}
use Rattle.area_laws.specs.log_page.Restarts.{is_clean, FitsRestart}
use Rattle.area_laws.specs.log_area.declared.restart.SentRestart.{SentRestart}
use Rattle.area_laws.specs.log_area.Areas.{LogAreaOf, sent_word, ring_size as area_size}
use Rattle.store_claims.specs.store_model.Stores.{Store}
use Rattle.store_claims.specs.store_model.Rings.{Ring, Restarts}
use Rattle.store_claims.specs.store_model.Volumes.{first_bytes, bytes_in, mounted_on, BearsContent}
use Rattle.store_claims.specs.Windows.{store_window}
use Rattle.store_claims.proofs.store_model.Told.{true≢false}
use Rattle.store_claims.proofs.store_model.Devices.{settled_bears}
use Rattle.store_claims.proofs.store_model.Volumes.{volume_geometry, is_volume, length-first_bytes, first_at, content_size}
use Rattle.store_claims.proofs.store_model.Refinement.{sound_events_law}
use Rattle.area_laws.specs.ring_laws.Numbers.{lsn_of_page}
use Rattle.area_laws.specs.ring_laws.RestartPages.{RestartFields}
use Rattle.area_laws.specs.ring_laws.StoreDisks.{disk_without}
use Rattle.area_laws.proofs.ring_laws.SeenDisks.{without_bears}
use Rattle.area_laws.proofs.ring_laws.StoreEvents.{log_starts}
use Rattle.area_laws.specs.Standing.{Stands}
use Rattle.txn_model.specs.Values.{StoreFacts, own_of}
use Rattle.txn_model.specs.Calls.{first_facts}
use Rattle.txn_laws.specs.Standing.{ClosesNone, StandsBehind}
use Rattle.txn_laws.specs.Windows.{HasStart}
use Rattle.txn_laws.proofs.Changes.{seen_whole}
use Rattle.store_claims.specs.Claims.{claims, will}
use Rattle.store_claims.proofs.Moving.{claims_move}

module _ (place : LogPlace) (log : LogAreaOf) (found : List Block) (lap : ℕ) (r : Ring) (q : Restarts) (fields : RestartFields) (disk : Disk) (own : Restart)
    (stands : Stands (record { place = place; lap = lap }) log r q [] fields disk) (idle : q.begun ≡ false) (said : fields q.sure ≡ Some own) (names : own.oldest ≡ lsn_of_page (record { place = place; lap = lap }) r.oldest)
    (fits : FitsRestart own) (opens : is_clean own ≡ false) (unsent : log.sent ≡ None) (settled : IsSettled disk) (sized : IsSized disk) where
  abbrev f : StoreFacts
  f = first_facts place log found

  abbrev content : Content
  content = content_of (seen disk)

  abbrev m : Store
  m = mounted_on 1 (content_of (seen disk)) (disk_without (own_of (first_facts place log found)) disk)

  bears : BearsContent (own_of f) (disk_without (own_of f) disk) (content_of (seen disk))
  bears = without_bears (own_of f) disk (content_of (seen disk)) (settled_bears (own_of f) disk settled)

  same_content : (b : Block) → (store_window m).present b ≡ content_of (seen disk) b
  same_content b = ap (λ (bytes : List ℕ). record { bytes = bytes; torn = (content_of (seen disk) b).torn }) bytes
    where
      size : length (content_of (seen disk) b).bytes ≡ 512 * sectors b.kind
      size = content_size (seen disk) b (seen_whole disk sized)

      bytes : first_bytes (512 * sectors b.kind) (λ i. slice_index (content_of (seen disk) b).bytes i) ≡ (content_of (seen disk) b).bytes
      bytes = ext_get_or 0 (first_bytes (512 * sectors b.kind) (λ i. slice_index (content_of (seen disk) b).bytes i)) (content_of (seen disk) b).bytes (length-first_bytes (512 * sectors b.kind) (λ i. slice_index (content_of (seen disk) b).bytes i) ∙ sym size)
          (λ i lt. first_at (512 * sectors b.kind) (λ i. slice_index (content_of (seen disk) b).bytes i) i (omega (arith, lt, length-first_bytes (512 * sectors b.kind) (λ i. slice_index (content_of (seen disk) b).bytes i))))

  behind : StandsBehind f disk m
  behind = record {
    geometry = volume_geometry (own_of f);
    volume = is_volume (own_of f);
    lap = lap;
    ring = r;
    pages = [];
    restarts = q;
    fields = fields;
    noted = 0;
    stands = stands;
    holds = log_starts (record { place = place; lap = lap }) r log.check q (sent_word log.sent) fields 0 0 m disk own stands.ring.ring stands.restarts.restarts idle said names
        (record { log_is = refl; synced_is = refl; done_is = refl; sent_is = refl; place_is = refl; begun_is = refl; renamed_is = refl; replaced_is = refl });
    below = λ begun. absurd (true≢false (sym begun));
    note = tt;
    same = refl;
    sized = sized;
    own_pages = record { sure = subst (λ (o : Option Restart). IfSome o FitsRestart) (sym said) fits; next = λ begun. absurd (true≢false (sym begun ∙ idle)) };
    closes = record {
      sure = subst (λ (o : Option Restart). IfSome o (ClosesNone false 0)) (sym said) (λ clean. absurd (true≢false (sym clean ∙ opens)));
      next = λ begun. absurd (true≢false (sym begun ∙ idle));
      sent = subst (λ (o : Option SentRestart). IfSome o (λ x. ClosesNone false (r.oldest + 0 - 0) x.page)) (sym unsent) tt;
    };
    placed = tt;
    sound = sound_events_law.mounted (own_of f) (volume_geometry (own_of f)) (is_volume (own_of f)) 1 (content_of (seen disk)) (disk_without (own_of f) disk) bears;
    window = record { is_open = refl; tx = refl; waiting = omega arith; body = λ b. tt; changed = λ b. refl; before = λ b. tt };
    marks = record {
      dirty = λ b. refl;
      dead = λ b. refl;
      kept = λ b. refl;
      apart = λ b is. absurd (true≢false (sym is));
      lone = λ b c rival is. absurd (true≢false (sym is));
      known = λ b is. absurd (true≢false (sym is));
      changed = λ b is. absurd (true≢false (sym is));
      wet = λ b is. absurd (true≢false (sym is));
      owed = λ begun b is. absurd (true≢false (sym begun));
      due = λ begun b is. absurd (true≢false (sym begun));
    };
    by_pages = record {
      some = λ k lt. absurd (omega (arith, lt));
      imaged = λ b is. absurd (true≢false (sym is));
      until = λ b k lt has. absurd (omega (arith, lt));
      commit = λ b k lt has. absurd (omega (arith, lt));
      killed = λ b is. absurd (true≢false (sym is));
      counted = length-replicate (area_size log) 0 ∙ ap (λ (p : ℕ). p - 4) stands.ring.session.pages;
      ends = λ k lt low. absurd (omega (arith, lt));
      begun = refl;
    };
  }

  all_claimed : (k : ℕ) (b : Block) → (claims m k b ≡ true) × (will m b ≡ true)
  all_claimed = claims_move.start 1 (bytes_in (content_of (seen disk))) (λ b. (content_of (seen disk) b).torn) (disk_without (own_of (first_facts place log found)) disk)

  pub starts_window : (changes : Changes) → changes.disk ≡ Some disk → HasStart changes (first_facts place log found) (content_of (seen disk))
  starts_window changes is = record { window = store_window m; has = (disk, is, m, behind, refl); closed = refl; none = refl; present = same_content; claimed = record { claims = λ k b. (all_claimed k b).0; will = λ b. (all_claimed 0 b).1 } }
