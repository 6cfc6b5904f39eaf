-- The ring of a log as its fields and a disk hold it.
use Rattle.std.specs.Prelude.{◌≡◌, ◌⊎◌, ℕ, suc, ◌+◌, ◌-◌, ◌^◌, ◌==◌, ◌<◌, ◌≤◌, true, if◌then◌else◌, List, [], ◌∷◌, ◌++◌, length, drop, get_or, set, slice_index, Some, is_some, IfSome, unwrap_or}
use Rattle.log_area.specs.disk_model.Bytes.{zeros}
use Rattle.log_area.specs.sector_device.Disks.{Disk}
use Rattle.ring_laws.specs.log_model.declared.entry.Entry.{Entry}
use Rattle.ring_laws.specs.log_model.Entries.{entry_size}
use Rattle.ring_laws.specs.log_page.Places.{page_bytes, entries_at}
use Rattle.ring_laws.specs.log_page.PageSpellings.{end_lsn, entries_spelling, MakePage}
use Rattle.ring_laws.specs.log_page.declared.restart.Restart.{Restart}
use Rattle.ring_laws.specs.store_model.Rings.{Ring, Restarts, restart_place}
use Rattle.ring_laws.specs.Numbers.{LogSession, place_of_page, lap_of_page, lsn_of_page}
use Rattle.ring_laws.specs.PageBytes.{page_sector}
use Rattle.ring_laws.specs.RingPages.{HoldsRing}
use Rattle.ring_laws.specs.RestartPages.{RestartFields, HoldsRestarts}
use Rattle.log_area.specs.Areas.{RingPageOf, LogAreaOf, IsLogArea, is_filling, used_pages, held_page, next_at, next_lsn, number_of, sent_word}

-- the ring in memory is that of this session
pub record IsSessionOf (s : LogSession) (a : LogAreaOf) : Type 0 where
  pub pages : a.pages ≡ s.place.pages
  pub lap : a.lap ≡ s.lap
  pub firsts : (k : ℕ) → k < s.place.pages → slice_index a.firsts k ≡ page_sector s.place k

-- A page in memory holds these entries, as the page with this number.
pub record HoldsEntries (s : LogSession) (n : ℕ) (entries : List Entry) (p : RingPageOf) : Type 0 where
  pub made : MakePage s.place.pages (lap_of_page s n) (place_of_page s n) entries
  pub size : length p.bytes ≡ page_bytes
  pub behind : drop 0x40 p.bytes ≡ entries_spelling entries ++ zeros (page_bytes - entries_at - length (entries_spelling entries))
  pub free : p.free ≡ entries_at + length (entries_spelling entries)
  pub last : p.last ≡ end_lsn (lsn_of_page s n) entries

-- one more than the LSN of the last entry before the page with this number, where the pages are those from the oldest one on
abbrev pub end_before : LogSession → ℕ → List (List Entry) → ℕ → ℕ
end_before s oldest pages n = 1 + end_lsn (lsn_of_page s (n - 1)) (get_or pages (n - 1 - oldest) [])

-- The fields of a ring, and a disk, hold the ring of these pages of entries, from the oldest one on up to the one that is filled.
pub record StandsRing (s : LogSession) (a : LogAreaOf) (r : Ring) (pages : List (List Entry)) (disk : Disk) : Type 0 where
  pub area : IsLogArea a
  pub session : IsSessionOf s a
  pub ring : HoldsRing s r a.check pages disk
  pub oldest : r.oldest ≡ a.oldest
  pub synced : r.synced ≡ a.synced
  pub done : r.done ≡ a.done
  pub counted : length pages ≡ used_pages a
  -- the pages that weren't written stand in memory
  pub held : (n : ℕ) → a.done ≤ n → n < a.oldest + used_pages a → HoldsEntries s n (get_or pages (n - a.oldest) []) (held_page a n)
  pub free : is_filling a ≡ true → a.free ≡ (held_page a a.sealed).free
  pub begun : (word : ℕ) → a.check ≡ Some word → a.done < a.sealed
  -- one more than the LSN of the last entry that was written, and of the last one that is durable
  pub reached : a.oldest < a.done → a.reached ≡ end_before s a.oldest pages a.done
  pub durable : a.oldest < a.synced → a.durable ≡ end_before s a.oldest pages a.synced

-- the pages with an entry more: it begins one, or stands behind the last one's entries
abbrev pub pages_with : Entry → LogAreaOf → List (List Entry) → List (List Entry)
pages_with e a pages =
    if next_at a (entry_size e) == entries_at
    then pages ++ (e ∷ []) ∷ []
    else set pages (a.sealed - a.oldest) (get_or pages (a.sealed - a.oldest) [] ++ e ∷ [])

-- the page of the oldest place after the next sync
abbrev pub freed_to : LogAreaOf → ℕ
freed_to a = unwrap_or a.named a.oldest

-- A restart page that says this is older than the one that would go next: by its current LSN, or else by its open count, but where that stays at its type's end.
abbrev pub IsOlder : LogAreaOf → Restart → Type 0
IsOlder a x = (x.current < next_lsn a 0x58) ⊎ ((x.current ≡ next_lsn a 0x58) × ((x.opens < a.opens) ⊎ (a.opens ≡ 2 ^ 32 - 1)))

-- The restart pages of a ring: the last one that is durable, and the next one, which goes to the other place.
pub record StandsRestarts (s : LogSession) (a : LogAreaOf) (q : Restarts) (fields : RestartFields) (disk : Disk) : Type 0 where
  pub restarts : HoldsRestarts s.place q (sent_word a.sent) fields disk
  pub done : q.done ≡ is_some a.named
  pub place : a.restart ≡ restart_place (if q.done then suc (suc q.sure) else suc q.sure)
  pub said : IfSome a.sent (λ x. fields (suc q.sure) ≡ Some x.page)
  -- the last one that was written is older than the next one, and so is one that was sent than those after it
  pub older : IfSome (fields (if q.done then suc q.sure else q.sure)) (IsOlder a)
  pub sent_before : IfSome a.sent (λ x. (x.page.current ≤ next_lsn a 0x58) × (x.page.opens ≡ a.opens))
  -- the one that was written names the page up to which the next sync frees the ring
  pub names : IfSome a.named (λ n. (x : Restart) × (fields (suc q.sure) ≡ Some x) × (number_of a x.oldest ≡ n))

-- The fields of a ring, and a disk, hold this ring and these restart pages.
pub record Stands (s : LogSession) (a : LogAreaOf) (r : Ring) (q : Restarts) (pages : List (List Entry)) (fields : RestartFields) (disk : Disk) : Type 0 where
  pub ring : StandsRing s a r pages disk
  pub restarts : StandsRestarts s a q fields disk
