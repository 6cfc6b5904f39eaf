-- The ring of the log's pages, and the two places of its restart pages: which of them a crash may leave.
use Rattle.std.specs.Prelude.{◌≡◌, ◌≢◌, ◌⊎◌, ◌<◌, ◌≤◌, ℕ, zero, suc, ◌+◌, ◌-◌, ◌%◌, ◌==◌, Bool, true, false, if◌then◌else◌, List, [], ◌∷◌, ◌++◌, Option, Some, None, Contains, max, length, take, drop}
use Rattle.log_model.specs.declared.entry.Entry.{Entry}
use Rattle.store_model.specs.Geometry.{SectorBytes}
use Rattle.store_model.specs.Stores.{Store, Image, MayLeave, list_of}

-- The pages of a session are numbered, and so are the places of the ring. A place holds a page that is whole at its own LSN, or nothing of the kind: an
-- old page, or a torn one.
pub record PagePlaces : Type 0 where
  pub durable : ℕ → Option ℕ
  pub written : ℕ → List (Option ℕ)  -- since the last sync, the newest first

-- what a read gives of a place
abbrev pub newest_page : List (Option ℕ) → Option ℕ → Option ℕ
newest_page [] durable = durable
newest_page (v ∷ vs) durable = v

-- a crash may leave this at a place
abbrev pub PlaceMayHold : PagePlaces → ℕ → Option ℕ → Type 0
PlaceMayHold places k x = (x ≡ places.durable k) ⊎ Contains (places.written k) x

-- a crash may leave these: it chooses for each place by itself
abbrev pub MayLeavePages : PagePlaces → (ℕ → Option ℕ) → Type 0
MayLeavePages places image = (k : ℕ) → PlaceMayHold places k (image k)

-- a ring of pages, by their numbers
pub record Ring : Type 0 where
  pub size : ℕ
  pub oldest : ℕ  -- the first page of the list
  pub synced : ℕ  -- the pages before it are durable
  pub done : ℕ  -- the pages before it were written, and the write answered Ok
  pub sent : ℕ  -- the pages before it were written, perhaps in part
  pub places : PagePlaces

-- the place holds this page
abbrev pub is_page : Option ℕ → ℕ → Bool
is_page (Some n) j = n == j
is_page None j = false

-- recovery reads pages from the oldest on, up to the first place that doesn't hold the expected one
abbrev pub read_to : (ℕ → ℕ) → (ℕ → Option ℕ) → ℕ → ℕ → ℕ
read_to place image j zero = j
read_to place image j (suc fuel) = if is_page (image (place j)) j then read_to place image (suc j) fuel else j

-- pages that are less than a round apart have places of their own
abbrev pub HasPlaces : ℕ → (ℕ → ℕ) → Type 0
HasPlaces size place = (i j : ℕ) → i < j → j < i + size → place i ≢ place j

-- the facts that a ring keeps
pub record IsRing (place : ℕ → ℕ) (r : Ring) : Type 0 where
  pub oldest : r.oldest ≤ r.synced
  pub synced : r.synced ≤ r.done
  pub done : r.done ≤ r.sent
  pub room : r.sent ≤ r.oldest + r.size
  -- durable pages are overwritten by nothing
  pub stays : (j : ℕ) (x : Option ℕ) → r.oldest ≤ j → j < r.synced → PlaceMayHold r.places (place j) x → x ≡ Some j
  -- what a read gives of the pages that were written
  pub reads : (j : ℕ) → r.oldest ≤ j → j < r.done → newest_page (r.places.written (place j)) (r.places.durable (place j)) ≡ Some j
  -- no place holds a page that wasn't written yet
  pub below : (k j : ℕ) (x : Option ℕ) → PlaceMayHold r.places k x → x ≡ Some j → j < r.sent

-- a ring of so many places, whose next page has this number
abbrev pub new_ring : ℕ → ℕ → PagePlaces → Ring
new_ring size next places = record { size = size; oldest = next; synced = next; done = next; sent = next; places = places }

-- page j is written at its place: whole, or nothing of the kind
pub record PutsPage (place : ℕ → ℕ) (j : ℕ) (value : Option ℕ) (before after : PagePlaces) : Type 0 where
  pub whole : (value ≡ Some j) ⊎ (value ≡ None)
  pub durable : (k : ℕ) → after.durable k ≡ before.durable k
  pub own : after.written (place j) ≡ value ∷ before.written (place j)
  pub other : (k : ℕ) → k ≢ place j → after.written k ≡ before.written k

-- a sync makes durable what a read gives
abbrev pub synced_places : PagePlaces → PagePlaces
synced_places p = record { durable = λ k. newest_page (p.written k) (p.durable k); written = λ k. [] }

-- A page is written or fails to be; all are synced; pages in front are freed, of those that are durable.
pub data RingStep (place : ℕ → ℕ) (r : Ring) : Ring → Type 0 where
  write : (after : PagePlaces) → r.done < r.oldest + r.size → PutsPage place r.done (Some r.done) r.places after → RingStep place r (record r { done = suc r.done; sent = max r.sent (suc r.done); places = after })
  write_fails : (value : Option ℕ) (after : PagePlaces) → r.done < r.oldest + r.size → PutsPage place r.done value r.places after → RingStep place r (record r { sent = max r.sent (suc r.done); places = after })
  sync_ring : RingStep place r (record r { synced = r.done; places = synced_places r.places })
  free : (oldest : ℕ) → r.oldest ≤ oldest → oldest ≤ r.synced → RingStep place r (record r { oldest = oldest })

-- the entries on some pages, page after page
abbrev pub entries_on : List (List Entry) → List Entry
entries_on [] = []
entries_on (page ∷ pages) = page ++ entries_on pages

-- The pages of a ring hold the list of a store, page after page from the oldest one on.
pub record HoldsList (r : Ring) (pages : List (List Entry)) (s : Store) : Type 0 where
  pub log : s.log ≡ entries_on pages
  pub synced : s.synced ≡ length (entries_on (take (r.synced - r.oldest) pages))
  pub sent : s.sent ≡ length (entries_on (take (r.sent - r.oldest) pages))

-- What recovery reads of pages that a crash left is a beginning of the store's list, with all that is durable and nothing that wasn't written.
pub record ReadsPrefix (s : Store) (entries : List Entry) : Type 0 where
  pub beginning : entries ≡ take (length entries) s.log
  pub durable : s.synced ≤ length entries
  pub written : length entries ≤ s.sent

-- ---- restart pages

-- Restart pages are numbered, and each stands at the other place than the one before it.
abbrev pub restart_place : ℕ → ℕ
restart_place n = n % 2

-- the last restart page that is durable, and the next one
pub record Restarts : Type 0 where
  pub sure : ℕ  -- the last restart page that is durable
  pub begun : Bool  -- the next one was written, perhaps in part
  pub done : Bool  -- and its write answered Ok
  pub places : PagePlaces

-- of two places the page with the greater number
abbrev pub greater_page : Option ℕ → Option ℕ → Option ℕ
greater_page None o = o
greater_page (Some m) None = Some m
greater_page (Some m) (Some n) = Some (max m n)

-- the restart page by which recovery begins
abbrev pub chosen_page : (ℕ → Option ℕ) → Option ℕ
chosen_page image = greater_page (image 0) (image 1)

-- the facts that restart pages keep
pub record AreRestarts (r : Restarts) : Type 0 where
  pub stays : (x : Option ℕ) → PlaceMayHold r.places (restart_place r.sure) x → x ≡ Some r.sure
  -- the other place holds the next page, once that was begun, or none that is later
  pub next : (j : ℕ) (x : Option ℕ) → PlaceMayHold r.places (restart_place (suc r.sure)) x → x ≡ Some j → (j ≤ r.sure) ⊎ ((r.begun ≡ true) × (j ≡ suc r.sure))
  pub reads : r.done ≡ true → newest_page (r.places.written (restart_place (suc r.sure))) (r.places.durable (restart_place (suc r.sure))) ≡ Some (suc r.sure)
  pub begun : r.done ≡ true → r.begun ≡ true

-- The next page is written or fails to be, and not again once that answered Ok; a sync before it did, and the sync that makes it the last one.
pub data RestartStep (r : Restarts) : Restarts → Type 0 where
  write_page : (after : PagePlaces) → r.done ≡ false → PutsPage restart_place (suc r.sure) (Some (suc r.sure)) r.places after → RestartStep r (record r { begun = true; done = true; places = after })
  write_page_fails : (value : Option ℕ) (after : PagePlaces) → r.done ≡ false → PutsPage restart_place (suc r.sure) value r.places after → RestartStep r (record r { begun = true; places = after })
  sync_before : r.done ≡ false → RestartStep r (record r { places = synced_places r.places })
  sync_after : r.done ≡ true → RestartStep r (record r { sure = suc r.sure; begun = false; done = false; places = synced_places r.places })

-- The page that recovery chooses is the last one that was written Ok and synced, or the next one, once that was begun.
abbrev pub IsChosen : Restarts → Option ℕ → Type 0
IsChosen r page = (page ≡ Some r.sure) ⊎ ((r.begun ≡ true) × (page ≡ Some (suc r.sure)))

-- ---- the images of a store

-- The pages and the restart pages of a store: the ring holds its list, and the next restart page, once that was begun, names the place of its checkpoint, the
-- front of the page with this number.
pub record IsKept (place : ℕ → ℕ) (r : Ring) (q : Restarts) (noted : ℕ) (pages : List (List Entry)) (s : Store) : Type 0 where
  pub ring : IsRing place r
  pub restarts : AreRestarts q
  pub holds : HoldsList r pages s
  pub begun : q.begun ≡ true → s.renamed ≡ true
  pub low : s.renamed ≡ true → r.oldest ≤ noted
  pub high : s.renamed ≡ true → noted ≤ r.synced
  pub names : s.renamed ≡ true → s.place ≡ length (entries_on (take (noted - r.oldest) pages))

-- the entries that recovery reads from this page on, where the pages are those from the oldest one on
abbrev pub read_from : (ℕ → ℕ) → Ring → List (List Entry) → (ℕ → Option ℕ) → ℕ → List Entry
read_from place r pages image start = entries_on (take (read_to place image start r.size - start) (drop (start - r.oldest) pages))

-- the entries that recovery reads, by the restart page that it chooses
pub data ReadsList (place : ℕ → ℕ) (r : Ring) (q : Restarts) (noted : ℕ) (pages : List (List Entry)) (image restarts : ℕ → Option ℕ) : List Entry → Type 0 where
  from_oldest : chosen_page restarts ≡ Some q.sure → ReadsList place r q noted pages image restarts (read_from place r pages image r.oldest)
  from_noted : q.begun ≡ true → chosen_page restarts ≡ Some (suc q.sure) → ReadsList place r q noted pages image restarts (read_from place r pages image noted)

-- What a crash leaves of the sectors and the pages is an image that the store may leave, and recovery reads its list.
pub record IsLeft (place : ℕ → ℕ) (r : Ring) (q : Restarts) (noted : ℕ) (pages : List (List Entry)) (s : Store) (sectors : SectorBytes) (image restarts : ℕ → Option ℕ) : Type 0 where
  pub left : Image
  pub sectors_are : left.sectors ≡ sectors
  pub may : MayLeave s left
  pub reads : ReadsList place r q noted pages image restarts (list_of s left)
