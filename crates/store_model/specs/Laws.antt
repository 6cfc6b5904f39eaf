-- The laws of a store.
use Rattle.std.specs.Prelude.{◌≡◌, ◌≢◌, ◌⊎◌, ◌↔◌, ◌<◌, ◌≤◌, ℕ, ◌+◌, ◌-◌, ◌^◌, Bool, true, false, List, [], ◌∷◌, length, take, Option, Some, None}
use Rattle.log_model.specs.disk_model.declared.block.Block.{Block}
use Rattle.log_model.specs.disk_model.Sectors.{sectors, are_rivals}
use Rattle.log_model.specs.disk_model.Content.{Content, content_of}
use Rattle.log_model.specs.disk_model.Writes.{overlay}
use Rattle.fixup_record.specs.Spellings.{has_spelling}
use Rattle.sector_device.specs.Disks.{Disk, seen, put, is_within, IsBetween, IsSettled}
use Rattle.log_model.specs.declared.entry.Entry.{Entry}
use Rattle.log_model.specs.Logs.{covers, first_undo, is_shadowed, is_covered_whole, redos, is_other, is_written_out, first_partial}
use Rattle.store_model.specs.Logs.{AllBytes, IsClaimed, has_update}
use Rattle.store_model.specs.Geometry.{SectorBytes, CanLeave, Geometry, Puts, PutsAll}
use Rattle.store_model.specs.Stores.{Window, Store, member, IsSound, Image, MayLeave, list_of, none}
use Rattle.store_model.specs.Events.{IsChange, MayChange, after_change, after_changes, after_commit, after_give_up, MayWriteOut, MayBury, Spells, StandsAs, synced_store, Step}
use Rattle.store_model.specs.Runs.{Run, commits_of, harms, alters, Spares}
use Rattle.store_model.specs.Recovery.{Recovering, MayRestore, IsRestored, recovering, IsStopped}
use Rattle.store_model.specs.Volumes.{is_known, content_with, sectors_from, body_sectors, IsVolume, window_of, mounted_on, BearsContent, AreWhole, IsRecovered, RecoversToContent}
use Rattle.store_model.specs.Rings.{PagePlaces, PlaceMayHold, HasPlaces, Ring, new_ring, IsRing, RingStep, entries_on, HoldsList, ReadsPrefix, MayLeavePages, read_to, Restarts, AreRestarts, RestartStep, IsChosen, chosen_page, IsKept, IsLeft}

-- An image recovers to the content after a commit since an earlier moment, or, on the blocks that were spared since, to one of the window of that
-- moment.
abbrev pub RecoversSince : (own : ℕ → Bool) (geometry : Geometry) (s : Store) (n : ℕ) (t : Store) → Run geometry s n t → Image → Type 0
RecoversSince own geometry s n t run image =
    ((k : ℕ) × (k < n) × (k ≤ (window_of t.window).waiting) × RecoversToContent own (list_of t image) image.sectors ((window_of t.window).before k))
    ⊎ ((k : ℕ) × (k ≤ (window_of s.window).waiting) × ((b : Block) → Spares geometry s n t run b → is_known own b ≡ true → is_shadowed (list_of t image) b ≡ false
    → IsRecovered (list_of t image) image.sectors ((window_of s.window).before k) b))

-- Whatever is done with a store after a mount, and at whatever moment a crash comes, each image that it may leave recovers, on the known blocks that its
-- list doesn't shadow, to the content after some number of commits, and to none older than what was known durable at any earlier moment, on the blocks
-- that were spared since.
abbrev pub CrashRefinement : Type 0
CrashRefinement = (own : ℕ → Bool) (geometry : Geometry) → IsVolume own geometry → (tx : ℕ) (content : Content) (disk : Disk) → BearsContent own disk content
    → (m n : ℕ) (t u : Store) → Run geometry (mounted_on tx content disk) m t → (run : Run geometry t n u) → (image : Image) → MayLeave u image → AreWhole image.sectors
    → RecoversSince own geometry t n u run image

-- each event keeps the facts of a store, and a mount has them
pub record SoundEvents : Type 0 where
  pub mounted : (own : ℕ → Bool) (geometry : Geometry) → IsVolume own geometry → (tx : ℕ) (content : Content) (disk : Disk) → BearsContent own disk content → IsSound geometry (mounted_on tx content disk)
  pub step : (geometry : Geometry) (s s' : Store) → Step geometry s s' → IsSound geometry s → IsSound geometry s'
  -- and a volume has a geometry
  pub volume : (own : ℕ → Bool) → (geometry : Geometry) × IsVolume own geometry

-- What each event does to the window of a store.
pub record WindowsMove : Type 0 where
  -- but for blocks that it harms, the contents that are left are those of before, further back by the commits of the event
  pub members : (geometry : Geometry) (s s' : Store) (step : Step geometry s s') (b : Block) → harms geometry s s' step b ≡ false → (k : ℕ) → commits_of geometry s s' step + k ≤ (window_of s'.window).waiting
      → (k ≤ (window_of s.window).waiting) × ((window_of s'.window).before (commits_of geometry s s' step + k) b ≡ (window_of s.window).before k b)
  pub waiting : (geometry : Geometry) (s s' : Store) (step : Step geometry s s') → (window_of s'.window).waiting ≤ commits_of geometry s s' step + (window_of s.window).waiting
  -- and the present bodies stay that it doesn't alter
  pub present : (geometry : Geometry) (s s' : Store) (step : Step geometry s s') → IsSound geometry s → (b : Block) → alters geometry s s' step b ≡ false → (window_of s'.window).present b ≡ (window_of s.window).present b
  -- a body that it harms is what a read gives
  pub harmed : (own : ℕ → Bool) (geometry : Geometry) → IsVolume own geometry → (s s' : Store) (step : Step geometry s s') (b : Block) → harms geometry s s' step b ≡ true → AreWhole (seen s'.disk)
      → (window_of s'.window).present b ≡ content_of (seen s'.disk) b
  -- after a change the present bytes are those of before with the redo bytes over them, and its block isn't torn
  pub change : (geometry : Geometry) (s : Store) (c : Block) (us : List Entry) → MayChange geometry s c us → (b : Block)
      → ((window_of (after_changes s.window c us)).present b).bytes ≡ (overlay (window_of s.window).present (redos (λ tx. true) us) b).bytes
  pub whole : (geometry : Geometry) (s : Store) (c : Block) (us : List Entry) → MayChange geometry s c us → ((window_of (after_changes s.window c us)).present c).torn ≡ false
  -- after a commit the newest content is the present one, and after a give-up the present content is the newest one
  pub commit : (w : Window) (b : Block) → (window_of (after_commit w)).before 0 b ≡ (window_of w).present b
  pub give_up : (w : Window) (b : Block) → (window_of (after_give_up w)).present b ≡ (window_of w).before 0 b

-- No image of a store is refused for a block that its list covers in part.
abbrev pub NoPartialBlock : Type 0
NoPartialBlock = (own : ℕ → Bool) (geometry : Geometry) → IsVolume own geometry → (s : Store) → IsSound geometry s → (image : Image) → MayLeave s image → AreWhole image.sectors
    → first_partial (content_of image.sectors) (list_of s image) ≡ None

-- A block that recovery of an image writes out: it is known, recovery may write it, and where its recovered bytes aren't the disk's they have a spelling.
pub record WritesBack (own : ℕ → Bool) (geometry : Geometry) (s : Store) (image : Image) (k : ℕ) (b : Block) : Type 0 where
  pub known : is_known own b ≡ true
  pub restores : (disk : Disk) → MayRestore geometry (recovering (list_of s image) disk) b
  pub spelled : is_other (content_of image.sectors) (list_of s image) b ≡ true → has_spelling b.kind ((window_of s.window).before k b).bytes ≡ true

-- An image recovers to the content that many commits back; recovery is asked for nothing that it can't write; and however often it is stopped and begun again,
-- each image recovers to the same content, on the known blocks that the list of the first image doesn't shadow.
pub record IsRecoverable (own : ℕ → Bool) (geometry : Geometry) (s : Store) (image : Image) (k : ℕ) : Type 0 where
  pub within : k ≤ (window_of s.window).waiting
  pub recovers : RecoversToContent own (list_of s image) image.sectors ((window_of s.window).before k)
  pub writes : (b : Block) → is_written_out (content_of image.sectors) (list_of s image) b ≡ true → WritesBack own geometry s image k b
  pub stopped : (list : List Entry) (at : SectorBytes) → IsStopped geometry (member s.window k) (s.window.was_torn k) (list_of s image) image.sectors list at → AreWhole at
      → (b : Block) → is_known own b ≡ true → is_shadowed (list_of s image) b ≡ false → is_shadowed list b ≡ false → IsRecovered list at ((window_of s.window).before k) b

-- Whatever a crash may leave of this disk, the known blocks that the list doesn't shadow have their recovered bytes already, and are torn at most where they
-- are to be.
abbrev pub StandsRecovered : (ℕ → Bool) → Recovering → AllBytes → (Block → Bool) → Type 0
StandsRecovered own r bytes torn = (at : SectorBytes) → CanLeave r.disk at → (b : Block) → is_known own b ≡ true → is_shadowed r.list b ≡ false
    → IsRecovered r.list at (content_with bytes torn) b × (is_other (content_of at) r.list b ≡ false) × ((content_of at b).torn ≡ true → torn b ≡ true)

-- Each image of a store is recoverable, and a recovery may name an empty list once all stands recovered.
pub record StoppedRecovery : Type 0 where
  pub found : (own : ℕ → Bool) (geometry : Geometry) → IsVolume own geometry → (s : Store) → IsSound geometry s → (image : Image) → MayLeave s image → AreWhole image.sectors
      → (k : ℕ) × IsRecoverable own geometry s image k
  pub restored : (own : ℕ → Bool) (geometry : Geometry) → IsVolume own geometry → (r : Recovering) (bytes : AllBytes) (torn : Block → Bool) → StandsRecovered own r bytes torn → IsRestored geometry r bytes torn

-- The machine's words are those of the log: a block is claimed exactly where it isn't shadowed, and covered whole exactly where each of its bytes has an undo
-- byte.
pub record WordsAgree : Type 0 where
  pub claimed : (list : List Entry) (b : Block) → (is_shadowed list b ≡ false) ↔ IsClaimed list b
  pub whole : (own : ℕ → Bool) (geometry : Geometry) → IsVolume own geometry → (list : List Entry) (b : Block) → is_known own b ≡ true
      → (is_covered_whole list b ≡ true) ↔ ((i : ℕ) → i < geometry.size b → first_undo list b i ≢ None)

-- What a store can always do.
pub record NeverWaits : Type 0 where
  -- where all entries are durable and no transaction is open, each block that a checkpoint owes may be written out
  pub owed : (geometry : Geometry) (s : Store) → IsSound geometry s → s.begun ≡ true → s.synced ≡ length s.log → s.window.is_open ≡ false → (b : Block) → s.owed b ≡ true → MayWriteOut s b
  -- what may be written out has a body that sectors can hold, the same in each member of the window
  pub spelled : (geometry : Geometry) (s : Store) → IsSound geometry s → (b : Block) → MayWriteOut s b → geometry.has_spelling b (s.window.body b) ≡ true
  pub settled : (s : Store) (b : Block) → MayWriteOut s b → (k i : ℕ) → member s.window k b i ≡ s.window.body b i
  -- a change that covers its block whole needs nothing of the list
  pub whole : (geometry : Geometry) (s : Store) (c : Block) (e : Entry) → s.window.is_open ≡ true → 0 < geometry.size c → ((x : Block) → are_rivals c x ≡ true → has_update s.window.draft x ≡ false) → IsChange s.window c e
      → geometry.has_spelling c ((after_change s.window c e).body c) ≡ true → ((i : ℕ) → i < geometry.size c → covers c i e.act ≡ true) → MayChange geometry s c (e ∷ [])
  -- a sync by which all entries become durable may drop all dead bodies, and another one may keep them
  pub bury : (geometry : Geometry) (s : Store) → IsSound geometry s → s.done ≡ length s.log → MayBury (synced_store s) s.dead
  pub keep : (s : Store) → s.done ≢ length s.log → MayBury (synced_store s) none

-- What the calls of a device are to the machine.
pub record DeviceCalls : Type 0 where
  -- a write of a block that answered Ok, and one that failed
  pub written : (own : ℕ → Bool) (geometry : Geometry) → IsVolume own geometry → (b : Block) (new : List (List ℕ)) (disk : Disk) → length new ≡ sectors b.kind → PutsAll geometry b (sectors_from b.first new) disk (put b.first new disk)
  pub failed : (own : ℕ → Bool) (geometry : Geometry) → IsVolume own geometry → (b : Block) (new : List (List ℕ)) (disk now : Disk) → length new ≡ sectors b.kind → IsBetween disk (put b.first new disk) now
      → Puts geometry b (sectors_from b.first new) disk now
  -- sectors that are written as they stand, whether or not the write fails
  pub again : (first : ℕ) (new : List (List ℕ)) (disk now : Disk) → ((s : ℕ) → is_within first (length new) s ≡ true → sectors_from first new s ≡ seen disk s) → IsBetween disk (put first new disk) now → StandsAs disk now
  -- the sectors of a body that has a spelling are read as that body
  pub spelled : (own : ℕ → Bool) (geometry : Geometry) → IsVolume own geometry → (w : Window) (b : Block) (check : ℕ) → geometry.has_spelling b (w.body b) ≡ true → check < 2 ^ 16
      → Spells geometry w b (sectors_from b.first (body_sectors b.kind check (w.body b)))
  -- a disk of which nothing is unsynced bears what is read of it
  pub settled : (own : ℕ → Bool) (disk : Disk) → IsSettled disk → BearsContent own disk (content_of (seen disk))

-- Of the two restart pages the one is chosen that was written Ok and synced last, or the next one, once that was begun.
pub record RestartIsChosen : Type 0 where
  pub chosen : (r : Restarts) → AreRestarts r → (image : ℕ → Option ℕ) → MayLeavePages r.places image → IsChosen r (chosen_page image)
  pub step : (r r' : Restarts) → RestartStep r r' → AreRestarts r → AreRestarts r'

-- What recovery reads of the ring is a beginning of the store's list, with all that is durable and nothing that wasn't written.
pub record RingIsPrefix : Type 0 where
  pub reads : (place : ℕ → ℕ) (r : Ring) (pages : List (List Entry)) (s : Store) → IsRing place r → HoldsList r pages s → (image : ℕ → Option ℕ) → MayLeavePages r.places image
      → ReadsPrefix s (entries_on (take (read_to place image r.oldest r.size - r.oldest) pages))
  -- a ring of which no place holds a page that is still to be written keeps this, and so does each event
  pub start : (place : ℕ → ℕ) (size next : ℕ) (places : PagePlaces) → ((k j : ℕ) (x : Option ℕ) → PlaceMayHold places k x → x ≡ Some j → j < next) → IsRing place (new_ring size next places)
  pub step : (place : ℕ → ℕ) (r r' : Ring) → HasPlaces r.size place → RingStep place r r' → IsRing place r → IsRing place r'
  -- so what a crash leaves of the sectors, the ring and the restart pages is an image that the store may leave
  pub left : (place : ℕ → ℕ) (r : Ring) (q : Restarts) (noted : ℕ) (pages : List (List Entry)) (s : Store) → IsKept place r q noted pages s → (sectors : SectorBytes) → CanLeave s.disk sectors
      → (image restarts : ℕ → Option ℕ) → MayLeavePages r.places image → MayLeavePages q.places restarts → IsLeft place r q noted pages s sectors image restarts
