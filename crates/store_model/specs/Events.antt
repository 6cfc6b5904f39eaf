-- The events of a store.
use Rattle.std.specs.Prelude.{Contains, ◌≡◌, ◌≢◌, ◌<◌, ◌≤◌, ℕ, zero, suc, ◌-◌, max, ◌&&◌, ◌||◌, Bool, true, false, not, if◌then◌else◌, List, [], ◌∷◌, ◌++◌, length, take, drop, Some, None}
use Rattle.log_model.specs.disk_model.declared.block.Block.{Block}
use Rattle.log_model.specs.disk_model.Sectors.{same_block, are_rivals}
use Rattle.sector_device.specs.Disks.{Disk, seen, settled}
use Rattle.log_model.specs.declared.entry.Entry.{Entry}
use Rattle.log_model.specs.Logs.{covers, undo_byte, first_undo, last_said}
use Rattle.store_model.specs.Logs.{IsUpdate, commit_by, commits, undone, changed, has_update, ended_with, IsOusted}
use Rattle.store_model.specs.Geometry.{SectorBytes, Geometry, CanLeave, Shows, Puts, PutsAll}
use Rattle.store_model.specs.Stores.{Window, Store, none}

-- the window after a change by its open transaction
abbrev pub after_change : Window → (c : Block) (e : Entry) → Window
after_change w c e = record w {
  body = changed e w.body;
  is_torn = λ b. not (same_block b c) && w.is_torn b;
  draft = w.draft ++ e ∷ [];
}

-- An update of this block by the open transaction. Its undo bytes are the bytes before, but for bytes that the transaction has changed before.
pub record IsChange (w : Window) (c : Block) (e : Entry) : Type 0 where
  pub update : IsUpdate w.tx c e
  pub old : (b : Block) (i : ℕ) → covers b i e.act ≡ true → first_undo w.draft b i ≡ None → undo_byte e.act i ≡ w.body b i

-- the window after a change by several updates
abbrev pub after_changes : Window → Block → List Entry → Window
after_changes w c [] = w
after_changes w c (e ∷ us) = after_changes (after_change w c e) c us

-- so are all of these, one after the other
abbrev pub AreChanges : Window → Block → List Entry → Type 0
AreChanges w c [] = Unit {0}
AreChanges w c (e ∷ us) = IsChange w c e × AreChanges (after_change w c e) c us

-- the change covers the whole block, together with what the list had before
abbrev pub Fills : Geometry → Window → List Entry → Block → List Entry → Type 0
Fills geometry w l c us = (i : ℕ) → i < geometry.size c → first_undo (l ++ us) c i ≢ None

-- if a rival was changed after the last of the block's own changes that wasn't given up, the change covers the whole block
abbrev pub Refills : Geometry → Window → List Entry → Block → List Entry → Type 0
Refills geometry w l c us = last_said (ended_with w.tx l) l c ≡ Some true → (i : ℕ) → i < geometry.size c → first_undo us c i ≢ None

-- the open transaction may change the block
pub record MayChange (geometry : Geometry) (s : Store) (c : Block) (us : List Entry) : Type 0 where
  pub opened : s.window.is_open ≡ true
  pub known : 0 < geometry.size c
  pub some : 0 < length us
  -- it has changed no rival
  pub alone : (x : Block) → are_rivals c x ≡ true → has_update s.window.draft x ≡ false
  pub old : AreChanges s.window c us
  -- it leaves a body that can be written
  pub spelled : geometry.has_spelling c ((after_changes s.window c us).body c) ≡ true
  pub fills : Fills geometry s.window s.log c us
  pub refills : Refills geometry s.window s.log c us
  pub next : s.begun ≡ true → Fills geometry s.window (drop s.place s.log) c us × Refills geometry s.window (drop s.place s.log) c us

-- a change of a block: its dirty rivals are never to be written out
abbrev pub changed_store : Store → Block → List Entry → Store
changed_store s c us = record s {
  window = after_changes s.window c us;
  log = s.log ++ us;
  dirty = λ b. same_block b c || (s.dirty b && not (are_rivals c b));
  dead = λ b. not (same_block b c) && (s.dead b || (are_rivals c b && s.dirty b));
  stale = λ b. if same_block b c && not (has_update s.window.draft c) then s.dirty c || s.dead c else s.stale b;
}

-- a newer member comes first
abbrev pub before : (Block → Bool) → (ℕ → Block → Bool) → ℕ → Block → Bool
before newest older zero = newest
before newest older (suc k) = older k

-- the window after its open transaction commits
abbrev pub after_commit : Window → Window
after_commit w = record w { was_torn = before w.is_torn w.was_torn; waiting = w.draft ∷ w.waiting; draft = []; is_open = false; tx = suc w.tx }

-- the window after a begin
abbrev pub after_begin : Window → Window
after_begin w = record w { is_open = true }

-- the window after its open transaction is given up
abbrev pub after_give_up : Window → Window
after_give_up w = record w { body = undone w.draft w.body; is_torn = w.was_torn 0; draft = []; is_open = false; tx = suc w.tx }

-- What a transaction that is given up changed becomes dirty. A block that was clean before, and whose body has no spelling, is written again as it stands.
abbrev pub given_up : Geometry → Store → Store
given_up geometry s = record s {
  window = after_give_up s.window;
  dirty = λ b. if has_update s.window.draft b then s.stale b || geometry.has_spelling b (undone s.window.draft s.window.body b) else s.dirty b;
}

-- the window after a sync that leaves so many waiting commits
abbrev pub after_sync : Window → ℕ → Window
after_sync w m = record w { waiting = take m w.waiting }

-- the window where these blocks are what a read gives
abbrev pub reread : Geometry → Disk → (Block → Bool) → Window → Window
reread geometry disk lost w = record w {
  body = λ x i. if lost x then geometry.decode x (seen disk) i else w.body x i;
  is_torn = λ x. if lost x then geometry.torn x (seen disk) else w.is_torn x;
  was_torn = λ k x. if lost x then geometry.torn x (seen disk) else w.was_torn k x;
}

-- a block may be written out: it is dirty, all its updates stand in durable pages, and so do the commits of its changes
pub record MayWriteOut (s : Store) (b : Block) : Type 0 where
  pub dirty : s.dirty b ≡ true
  pub free : has_update s.window.draft b ≡ false
  pub settled : (us : List Entry) → Contains s.window.waiting us → has_update us b ≡ false
  pub logged : has_update (drop s.synced s.log) b ≡ false

-- these sectors read back as the present body, torn at most where it is
abbrev pub Spells : Geometry → Window → Block → SectorBytes → Type 0
Spells geometry w b new = (f : SectorBytes) (i : ℕ) → i < geometry.size b → ((s : ℕ) → geometry.has b s ≡ true → f s ≡ new s) → Shows geometry f b i w.body w.is_torn

-- A write-out that failed. The rivals of the block are what a read gives; dead ones leave, and are due where they were owed.
abbrev pub put_in_part : Geometry → Store → Block → Disk → Store
put_in_part geometry s b disk = record s {
  window = reread geometry disk (are_rivals b) s.window;
  wet = λ c. are_rivals b c || s.wet c;
  owed = λ c. not (are_rivals b c) && s.owed c;
  due = λ c. (are_rivals b c && (s.owed b || s.owed c)) || s.due c;
  dead = λ c. not (are_rivals b c) && s.dead c;
  disk = disk;
}

-- A write-out that answered Ok: the block is clean, and its rivals are what a read gives.
abbrev pub written_out : Geometry → Store → Block → Disk → Store
written_out geometry s b disk = record s {
  window = reread geometry disk (are_rivals b) s.window;
  dirty = λ c. not (same_block c b) && s.dirty c;
  wet = λ c. (same_block c b || are_rivals b c) || s.wet c;
  owed = λ c. not (same_block c b || are_rivals b c) && s.owed c;
  due = λ c. ((same_block c b || are_rivals b c) && (s.owed b || s.owed c)) || s.due c;
  dead = λ c. not (are_rivals b c) && s.dead c;
  disk = disk;
}

-- Nothing is claimed of the block: in whatever a crash leaves of the list, an update of a rival stands after each of its own.
pub record Loses (l : List Entry) (d : ℕ) (x : Block) : Type 0 where
  pub ousted : IsOusted (take d l) x
  pub quiet : has_update (drop d l) x ≡ false

-- At the end of a sync some dead bodies leave: only such of which nothing is claimed, and all of them where all entries are durable.
pub record MayBury (s : Store) (gone : Block → Bool) : Type 0 where
  pub dead : (x : Block) → gone x ≡ true → s.dead x ≡ true
  pub lost : (x : Block) → gone x ≡ true → Loses s.log s.synced x
  pub all : s.synced ≡ length s.log → (x : Block) → s.dead x ≡ true → gone x ≡ true

-- the dead bodies that leave are what a read gives
abbrev pub buried : Geometry → Store → (Block → Bool) → Store
buried geometry s gone = record s {
  window = reread geometry s.disk gone s.window;
  owed = λ x. not (gone x) && s.owed x;
  dead = λ x. not (gone x) && s.dead x;
}

-- a sync that succeeds
abbrev pub synced_store : Store → Store
synced_store s = record s {
  window = after_sync s.window (commits (drop s.done s.log));
  synced = s.done;
  wet = none;
  due = none;
  disk = settled s.disk;
}

-- the ring is freed up to the noted place
abbrev pub freed : Store → Store
freed s = record s {
  log = drop s.place s.log;
  synced = s.synced - s.place;
  done = s.done - s.place;
  sent = s.sent - s.place;
  begun = false;
  renamed = false;
  replaced = false;
}

-- A checkpoint begins: it notes the place, and each block that is dirty or dead; what was written since the last sync is due.
abbrev pub checkpoint_begun : Store → Store
checkpoint_begun s = record s { begun = true; place = length s.log; owed = λ c. s.dirty c || s.dead c; due = s.wet }

-- a checkpoint owes nothing more
pub record MayRename (s : Store) : Type 0 where
  pub begun : s.begun ≡ true
  pub durable : s.place ≤ s.synced
  pub paid : (b : Block) → (s.owed b ≡ false) × (s.due b ≡ false)
  pub again : s.replaced ≡ false

-- a disk of which reads give the same, and of which a crash leaves no more
pub record StandsAs (before after : Disk) : Type 0 where
  pub seen : (s : ℕ) → seen after s ≡ seen before s
  pub leaves : (at : SectorBytes) → CanLeave after at → CanLeave before at

-- The events of a store, those that fail too. A page that is sealed and a sync that fails change nothing, and a crash inside a call is one after that call failed.
pub data Step (geometry : Geometry) (s : Store) : Store → Type 0 where
  begin : s.window.is_open ≡ false → Step geometry s (record s { window = after_begin s.window })
  change : (c : Block) (us : List Entry) → MayChange geometry s c us → Step geometry s (changed_store s c us)
  commit : (lsn previous : ℕ) → s.window.is_open ≡ true → Step geometry s (record s { window = after_commit s.window; log = s.log ++ commit_by lsn previous s.window.tx ∷ [] })
  give_up : s.window.is_open ≡ true → Step geometry s (given_up geometry s)
  write_page : (m : ℕ) → s.done ≤ m → m ≤ length s.log → Step geometry s (record s { done = m; sent = max s.sent m })
  write_page_fails : (m : ℕ) → m ≤ length s.log → Step geometry s (record s { sent = max s.sent m })
  sync : (gone : Block → Bool) → s.replaced ≡ false → MayBury (synced_store s) gone → Step geometry s (buried geometry (synced_store s) gone)
  sync_frees : (gone : Block → Bool) → s.replaced ≡ true → MayBury (synced_store s) gone → Step geometry s (freed (buried geometry (synced_store s) gone))
  write_out : (b : Block) (new : SectorBytes) (disk : Disk) → MayWriteOut s b → Spells geometry s.window b new → PutsAll geometry b new s.disk disk → Step geometry s (written_out geometry s b disk)
  write_out_fails : (b : Block) (new : SectorBytes) (disk : Disk) → MayWriteOut s b → Puts geometry b new s.disk disk → Step geometry s (put_in_part geometry s b disk)
  -- sectors are written again as they stand
  write_again : (disk : Disk) → StandsAs s.disk disk → Step geometry s (record s { disk = disk })
  begin_checkpoint : s.begun ≡ false → s.window.is_open ≡ false → Step geometry s (checkpoint_begun s)
  write_restart : MayRename s → Step geometry s (record s { renamed = true; replaced = true })
  write_restart_fails : MayRename s → Step geometry s (record s { renamed = true })
