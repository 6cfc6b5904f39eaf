-- The ring of a log as a session holds it in memory, and what each call makes of it.
use Rattle.std.specs.Prelude.{◌≡◌, ℕ, ◌+◌, ◌-◌, ◌*◌, ◌/◌, ◌%◌, ◌^◌, ◌<◌, ◌≤◌, ◌==◌, ◌&&◌, Bool, true, not, min, nat_le, nat_lt, if◌then◌else◌, List, ◌++◌, drop, length, map, replicate, slice_index, slice_index_or, slice_set, Option, Some, None, IfSome, unwrap_or}
use Rattle.std.specs.List.{range_with_len}
use Rattle.disk_model.specs.Bytes.{zeros, written}
use Rattle.log_reading.specs.log_model.declared.entry.Entry.{Entry}
use Rattle.log_reading.specs.log_model.Entries.{entry_size, entry_spelling}
use Rattle.log_reading.specs.log_page.declared.places.LogPlace.{LogPlace}
use Rattle.log_reading.specs.log_page.declared.restart.Restart.{Restart}
use Rattle.log_reading.specs.log_page.Places.{page_bytes, first_page, entries_at, sequence_bits, lsn_at, lap_of, page_of, is_in_ring}
use Rattle.log_reading.specs.log_page.PageSpellings.{page_front}
use Rattle.log_reading.specs.log_page.Restarts.{FitsRestart}
use Rattle.log_reading.specs.LogPages.{log_sector}
use Rattle.log_area.specs.declared.restart.SentRestart.{SentRestart}

-- A page of the ring in memory: entries stand in its bytes from 0x40 on, with the LSN of the last one and the offset of the first free byte.
pub record RingPageOf : Type 0 where
  pub bytes : List ℕ
  pub last : ℕ
  pub free : ℕ

-- what a page keeps
pub record IsRingPage (p : RingPageOf) : Type 0 where
  pub size : length p.bytes ≡ 4096
  pub small : p.last + 1 < 2 ^ 64

-- a page without entries
abbrev pub no_page : RingPageOf
no_page = record { bytes = zeros page_bytes; last = 0; free = entries_at }

-- the page with an entry at this offset, where those before it stay; the first one begins over zeros
abbrev pub page_with : Entry → ℕ → RingPageOf → RingPageOf
page_with e at p = record { bytes = written at (entry_spelling e) (if at == entries_at then zeros page_bytes else p.bytes); last = e.lsn; free = at + entry_size e }

-- the page as it is written, before its update sequence is made
abbrev pub made_page : RingPageOf → List ℕ
made_page p = page_front p.last p.free ++ drop 0x40 p.bytes

-- ---- the ring

-- where the page of the log with this number begins on the device
abbrev pub page_first : LogPlace → ℕ → ℕ
page_first place n = unwrap_or (log_sector place (8 * n)) 0

-- The ring of a session. Its pages are numbered, and go round the places of the ring.
pub record LogAreaOf : Type 0 where
  pub pages : ℕ  -- the pages of the log
  pub sectors : ℕ  -- the sectors of the device
  pub firsts : List ℕ  -- the first sector of each page of the log
  pub lap : ℕ  -- the lap of the session's first page
  pub ring : List RingPageOf  -- the pages in memory, by their places
  pub free : ℕ  -- the offset of the first free byte of the page that is filled, 0x40 where it has no entry
  pub sealed : ℕ  -- so many pages were sealed; the next one is filled
  pub done : ℕ  -- so many were written, and the write answered Ok
  pub check : Option ℕ  -- the check word of the next one, once it was chosen: then it was sent, perhaps in part
  pub reached : ℕ  -- one more than the LSN of the last entry on pages that were written
  pub synced : ℕ  -- so many pages are durable
  pub durable : ℕ  -- one more than the LSN of the last entry on them, 0 before there is one
  pub oldest : ℕ  -- the page of the oldest place
  pub restart : ℕ  -- where the next restart page goes, 0 or 1
  pub opens : ℕ  -- its open count
  pub sent : Option SentRestart  -- this page, once it was sent, perhaps in part
  pub named : Option ℕ  -- the page of the oldest place that a restart page names which was written since the last sync

-- the ring of these fields
abbrev pub area_of : (pages sectors : ℕ) (firsts : List ℕ) (lap : ℕ) (ring : List RingPageOf) (free sealed done : ℕ) (check : Option ℕ) (reached synced durable oldest restart opens : ℕ) (sent : Option SentRestart) (named : Option ℕ) → LogAreaOf
area_of pages sectors firsts lap ring free sealed done check reached synced durable oldest restart opens sent named = record {
  pages = pages;
  sectors = sectors;
  firsts = firsts;
  lap = lap;
  ring = ring;
  free = free;
  sealed = sealed;
  done = done;
  check = check;
  reached = reached;
  synced = synced;
  durable = durable;
  oldest = oldest;
  restart = restart;
  opens = opens;
  sent = sent;
  named = named;
}

abbrev pub ring_size : LogAreaOf → ℕ
ring_size a = a.pages - first_page

-- the lap of a page by its number, its page in the log, and its place in the ring
abbrev pub lap_at : LogAreaOf → ℕ → ℕ
lap_at a n = a.lap + n / ring_size a

abbrev pub place_at : LogAreaOf → ℕ → ℕ
place_at a n = n % ring_size a

-- the LSN of this offset of a page
abbrev pub number_lsn : LogAreaOf → ℕ → ℕ → ℕ
number_lsn a n at = lsn_at a.pages (lap_at a n) (page_bytes * (first_page + place_at a n) + at)

-- the page that is filled has an entry
abbrev pub is_filling : LogAreaOf → Bool
is_filling a = nat_lt entries_at a.free

-- an entry of so many bytes fits into it
abbrev pub fits : LogAreaOf → ℕ → Bool
fits a bytes = nat_le (a.free + bytes) page_bytes

-- The page of an entry of so many bytes that is appended next, its offset there, and its LSN.
abbrev pub next_number : LogAreaOf → ℕ → ℕ
next_number a bytes = if fits a bytes then a.sealed else a.sealed + 1

abbrev pub next_at : LogAreaOf → ℕ → ℕ
next_at a bytes = if fits a bytes then a.free else entries_at

abbrev pub next_lsn : LogAreaOf → ℕ → ℕ
next_lsn a bytes = number_lsn a (next_number a bytes) (next_at a bytes)

-- the pages that are filled or sealed, from the oldest place on; and the others
abbrev pub used_pages : LogAreaOf → ℕ
used_pages a = a.sealed - a.oldest + (if is_filling a then 1 else 0)

abbrev pub free_pages : LogAreaOf → ℕ
free_pages a = ring_size a - used_pages a

-- such an entry begins a page
abbrev pub needs_page : LogAreaOf → ℕ → Bool
needs_page a bytes = not (is_filling a && fits a bytes)

-- the page in memory by its number
abbrev pub held_page : LogAreaOf → ℕ → RingPageOf
held_page a n = slice_index_or a.ring (place_at a n) no_page

-- where a page begins on the device
abbrev pub page_sector : LogAreaOf → ℕ → ℕ
page_sector a n = slice_index a.firsts (place_at a n + first_page)

-- a check word is neither 0 nor FFFF
abbrev pub IsWord : ℕ → Type 0
IsWord word = (0 < word) × (word < 0xFFFF)

-- a restart page that was sent has a spelling
abbrev pub IsSpelled : SentRestart → Type 0
IsSpelled s = FitsRestart s.page × IsWord s.check

-- What a ring keeps.
pub record IsLogArea (a : LogAreaOf) : Type 0 where
  pub some : 4 < a.pages
  pub few : a.pages < 2 ^ 52
  pub counted : length a.firsts ≡ a.pages
  pub inside : (n : ℕ) → n < a.pages → slice_index a.firsts n + 8 ≤ a.sectors
  pub places : length a.ring ≡ ring_size a
  pub begun : 1 ≤ a.lap
  pub above : entries_at ≤ a.free
  pub below : a.free ≤ page_bytes
  pub durable_pages : a.oldest ≤ a.synced
  pub written_pages : a.synced ≤ a.done
  pub sealed_pages : a.done ≤ a.sealed
  pub room : a.sealed ≤ a.oldest + ring_size a
  pub own_page : is_filling a ≡ true → a.sealed < a.oldest + ring_size a
  pub laps : lap_at a a.sealed ≤ 2 ^ sequence_bits a.pages
  pub own_lap : is_filling a ≡ true → lap_at a a.sealed < 2 ^ sequence_bits a.pages
  pub two : a.restart ≤ 1
  pub word : IfSome a.check IsWord
  pub spelled : IfSome a.sent IsSpelled
  pub names : IfSome a.named (λ n. (a.oldest ≤ n) × (n ≤ a.synced))

-- ---- what the calls in memory make of it

-- the ring at its start
abbrev pub new_area : LogPlace → ℕ → ℕ → ℕ → LogAreaOf
new_area place lap restart opens = record {
  pages = place.pages;
  sectors = place.device;
  firsts = map (page_first place) (range_with_len 0 place.pages);
  lap = lap;
  ring = replicate (place.pages - first_page) no_page;
  free = entries_at;
  sealed = 0;
  done = 0;
  check = None;
  reached = 0;
  synced = 0;
  durable = 0;
  oldest = 0;
  restart = restart;
  opens = opens;
  sent = None;
  named = None;
}

-- with an entry more
abbrev pub appended : Entry → LogAreaOf → LogAreaOf
appended e a = record a {
  ring = slice_set a.ring (place_at a (next_number a (entry_size e))) (page_with e (next_at a (entry_size e)) (held_page a (next_number a (entry_size e))));
  free = next_at a (entry_size e) + entry_size e;
  sealed = next_number a (entry_size e);
}

-- the page that is filled is sealed, if it has an entry
abbrev pub sealed_area : LogAreaOf → LogAreaOf
sealed_area a = if is_filling a then record a { free = entries_at; sealed = a.sealed + 1 } else a

-- ---- and the calls of the device

-- the next page was written
abbrev pub written_area : LogAreaOf → LogAreaOf
written_area a = record a { done = a.done + 1; check = None; reached = (held_page a a.done).last + 1 }

-- a sync went well: what was written is durable, and the ring is free up to the oldest place that the last restart page names
abbrev pub synced_area : LogAreaOf → LogAreaOf
synced_area a = record a { synced = a.done; durable = a.reached; oldest = unwrap_or a.named a.oldest; named = None }

-- ---- restart pages

-- the page in which an LSN of the session lies
abbrev pub number_of : LogAreaOf → ℕ → ℕ
number_of a lsn = (lap_of a.pages lsn - a.lap) * ring_size a + (page_of a.pages lsn - first_page)

-- An LSN that may be named the oldest place: one in a page from the oldest one up to the end of the durable ones.
pub record IsOldest (a : LogAreaOf) (lsn : ℕ) : Type 0 where
  pub inside : is_in_ring a.pages lsn ≡ true
  pub lap : a.lap ≤ lap_of a.pages lsn
  pub from : a.oldest ≤ number_of a lsn
  pub upto : number_of a lsn ≤ a.synced

-- where the next restart page begins on the device
abbrev pub restart_sector : LogAreaOf → ℕ
restart_sector a = slice_index a.firsts a.restart

-- its check word, once it was sent
abbrev pub sent_word : Option SentRestart → Option ℕ
sent_word (Some s) = Some s.check
sent_word None = None

-- The restart page that names this place. Its current LSN is that of the place where the least entry, a commit, would go next.
abbrev pub naming_page : LogAreaOf → ℕ → Bool → Restart
naming_page a oldest clean = record { major = 1; minor = 1; current = next_lsn a 0x58; oldest = oldest; opens = a.opens; bytes = page_bytes * a.pages; used = true; clean = clean; own = true }

-- the one that goes out: that which was sent already, or else this one
abbrev pub page_to_send : LogAreaOf → ℕ → Bool → Restart
page_to_send a oldest clean = by_sent a.sent
  where
    by_sent : Option SentRestart → Restart
    by_sent (Some s) = s.page
    by_sent None = naming_page a oldest clean

-- it was written: the other place is next, and the open count rises, or stays at its type's end
abbrev pub named_area : ℕ → LogAreaOf → LogAreaOf
named_area oldest a = record a { restart = 1 - a.restart; opens = min (a.opens + 1) (2 ^ 32 - 1); sent = None; named = Some (number_of a oldest) }
