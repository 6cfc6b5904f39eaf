-- What a crash leaves of a ring, and which LSNs may be named.
use Rattle.std.proofs.Common.{◌≡◌, ℕ, ◌+◌, ◌-◌, ◌*◌, ◌/◌, ◌%◌, ◌≤◌, List, sym, ap, ap₂, ◌∙◌, arith}
use Rattle.std.proofs.lemmas.Nat.{div-add-mod'}
use Rattle.log_area.specs.disk_model.Sectors.{sector_of}
use Rattle.log_area.specs.sector_device.Disks.{Disk, MayLeave}
use Rattle.ring_laws.specs.log_model.declared.entry.Entry.{Entry}
use Rattle.ring_laws.specs.log_page.Places.{lap_of, page_of, is_in_ring}
use Rattle.ring_laws.specs.store_model.Rings.{Ring, Restarts}
use Rattle.ring_laws.specs.Numbers.{LogSession, lsn_of_page}
use Rattle.ring_laws.specs.Laws.{ReadsFront}
use Rattle.ring_laws.specs.RestartPages.{RestartFields, ChoosesRestart}
use Rattle.ring_laws.proofs.Numbering.{says_lap, says_page, says_ring}
use Rattle.ring_laws.proofs.RingFacts.{has_ring, log_small}
use Rattle.ring_laws.proofs.RingReads.{reads_front}
use Rattle.ring_laws.proofs.RestartCalls.{chooses}
use Rattle.log_area.specs.Areas.{LogAreaOf, ring_size, number_lsn, number_of, IsOldest}
use Rattle.area_laws.specs.Standing.{Stands}
use Rattle.area_laws.proofs.Appending.{session_lsn}

pub is_read : (s : LogSession) (a : LogAreaOf) (r : Ring) (q : Restarts) (pages : List (List Entry)) (fields : RestartFields) (disk : Disk) → Stands s a r q pages fields disk → (count : ℕ) (image : List (List ℕ)) → MayLeave count disk image
    → ReadsFront s r pages (sector_of image) × ChoosesRestart s.place q fields (sector_of image)
is_read s a r q pages fields disk h count image left =
    (reads_front s r a.check pages disk h.ring.ring (sector_of image) left.each, chooses s.place q _ fields disk h.restarts.restarts (sector_of image) left.each)

module _ (s : LogSession) (a : LogAreaOf) (r : Ring) (q : Restarts) (pages : List (List Entry)) (fields : RestartFields) (disk : Disk) (h : Stands s a r q pages fields disk) (n : ℕ) where
  abbrev lsn : ℕ
  lsn = number_lsn a n 0x40

  pub is_first : lsn ≡ lsn_of_page s n
  is_first = session_lsn s a n 0x40 h.ring.session

  lap_is : lap_of a.pages lsn ≡ a.lap + n / ring_size a
  lap_is =
      ap₂ lap_of h.ring.session.pages is_first ∙ says_lap s (has_ring s.place h.ring.ring.lies) (log_small s.place h.ring.ring.lies) n
      ∙ ap₂ (λ (l : ℕ) (p : ℕ). l + n / (p - 4)) (sym h.ring.session.lap) (sym h.ring.session.pages)

  page_is : page_of a.pages lsn ≡ 4 + n % ring_size a
  page_is =
      ap₂ page_of h.ring.session.pages is_first ∙ says_page s (has_ring s.place h.ring.ring.lies) (log_small s.place h.ring.ring.lies) n
      ∙ ap (λ (p : ℕ). 4 + n % (p - 4)) (sym h.ring.session.pages)

  pub number_is : number_of a lsn ≡ n
  number_is =
      ap₂ (λ (l : ℕ) (p : ℕ). (l - a.lap) * ring_size a + (p - 4)) lap_is page_is
      ∙ ap₂ (λ (l : ℕ) (p : ℕ). l * ring_size a + p) (let e : a.lap + n / ring_size a - a.lap ≡ n / ring_size a = omega arith in e) (let e : 4 + n % ring_size a - 4 ≡ n % ring_size a = omega arith in e)
      ∙ div-add-mod' n (ring_size a)

  pub front_named : a.oldest ≤ n → n ≤ a.synced → IsOldest a lsn
  front_named from upto =
      let lap = lap_is in
      let number = number_is in
      record {
        inside = ap₂ is_in_ring h.ring.session.pages is_first ∙ says_ring s (has_ring s.place h.ring.ring.lies) (log_small s.place h.ring.ring.lies) n;
        lap = omega arith;
        from = omega arith;
        upto = omega arith;
      }
