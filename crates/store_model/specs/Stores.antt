-- The store as a pure machine: what it knows, what a crash may leave, and the facts that it keeps.
use Rattle.std.specs.Prelude.{◌≡◌, ◌≢◌, ◌⊎◌, ◌<◌, ◌≤◌, ℕ, ◌-◌, ◌||◌, Bool, true, false, List, [], length, take, drop, Some, None, unwrap_or}
use Rattle.std.specs.List.{AllByRecursion}
use Rattle.log_model.specs.disk_model.declared.block.Block.{Block}
use Rattle.log_model.specs.disk_model.Sectors.{are_rivals}
use Rattle.sector_device.specs.Disks.{Disk, seen}
use Rattle.log_model.specs.declared.entry.Entry.{Entry}
use Rattle.log_model.specs.Logs.{updates, IsLevel, is_ended, first_undo, told, last_said}
use Rattle.log_model.specs.StoreLaws.{told_with, is_named}
use Rattle.store_model.specs.Logs.{AllBytes, commits, IsClaimed, undone, back, has_update, has_by, is_behind, IsOusted, ended_with}
use Rattle.store_model.specs.Geometry.{SectorBytes, Geometry, CanLeave, Shows}

-- The window of a store: the present bodies, and what undoes them.
pub record Window : Type 0 where
  pub body : AllBytes  -- the present bodies
  pub is_torn : Block → Bool  -- these are torn
  pub was_torn : ℕ → Block → Bool  -- so many commits back, these were
  pub waiting : List (List Entry)  -- the updates of each commit that isn't known durable, the newest commit first
  pub is_open : Bool
  pub tx : ℕ  -- the open transaction, or the next one
  pub draft : List Entry  -- the updates of the open transaction

-- A store: its window, its list of entries and how far that is written, its checkpoint, its blocks, and its disk.
pub record Store : Type 0 where
  pub window : Window
  pub log : List Entry  -- the entries from the oldest place on
  pub synced : ℕ  -- so many of them stand in durable pages
  pub done : ℕ  -- so many in pages whose write answered Ok
  pub sent : ℕ  -- so many in pages that were written, perhaps in part
  pub begun : Bool  -- a checkpoint has begun
  pub place : ℕ  -- the place that it noted: so many entries stand before it
  pub renamed : Bool  -- the restart page that names this place was written, perhaps in part
  pub replaced : Bool  -- and this write answered Ok
  pub owed : Block → Bool  -- noted blocks that weren't written out since
  pub due : Block → Bool  -- noted blocks that were, with no sync since
  pub dirty : Block → Bool  -- changed since the last write-out that answered Ok
  pub dead : Block → Bool  -- not written out when a rival was changed, and never to be: the rival's update stands in the log
  pub stale : Block → Bool  -- dirty or dead when the open transaction first changed it
  pub wet : Block → Bool  -- written since the last sync that answered Ok
  pub disk : Disk

-- The bytes that many commits back. The contents of a window are these, up to the number of waiting commits, and `was_torn` says which blocks are
-- torn in each.
abbrev pub member : Window → ℕ → AllBytes
member w k = back w.waiting k (undone w.draft w.body)

-- if the open transaction ended now, the list would tell the present byte
abbrev pub IsReadyAt : Window → List Entry → Block → ℕ → Type 0
IsReadyAt w l b i = (v : ℕ) → told_with (ended_with w.tx l) l b i ≡ Some v → w.body b i ≡ v

-- What a list of entries tells, of which a crash leaves the first d at least, is a member of the window.
pub record Tells (geometry : Geometry) (w : Window) (l : List Entry) (d : ℕ) : Type 0 where
  -- what a beginning tells is the content after its commits
  pub right : (p : ℕ) (b : Block) (i v : ℕ) → d ≤ p → p ≤ length l → i < geometry.size b → IsClaimed (take p l) b → told (take p l) b i ≡ Some v → member w (commits (drop p l)) b i ≡ v
  -- where the list tells nothing, nothing has changed since its beginning: the open transaction changed nothing, and the members are the present body
  pub quiet : (b : Block) (i : ℕ) → told l b i ≡ None → first_undo w.draft b i ≡ None
  pub still : (p : ℕ) (b : Block) (i : ℕ) (c : AllBytes) → d ≤ p → p ≤ length l → told l b i ≡ None → back w.waiting (commits (drop p l)) (undone w.draft c) b i ≡ c b i
  pub even : (p : ℕ) (b : Block) → d ≤ p → p ≤ length l → has_update l b ≡ false → w.was_torn (commits (drop p l)) b ≡ w.is_torn b
  -- an ended update comes with others that cover the whole block
  pub ended : (p : ℕ) (b : Block) (i : ℕ) → d ≤ p → p ≤ length l → i < geometry.size b → last_said (is_ended (take p l)) (take p l) b ≡ Some false → first_undo (take p l) b i ≢ None
  pub unended : is_ended l w.tx ≡ false
  -- the open transaction's updates are those of its draft
  pub mine : (b : Block) → has_update w.draft b ≡ false → has_by l w.tx b ≡ false
  pub unused : w.is_open ≡ false → is_named l w.tx ≡ false
  pub fresh : (u : ℕ) → w.tx < u → is_named l u ≡ false

-- Where a beginning of the list doesn't tell every byte of a block, these sectors have the block as it is in the content after its commits.
abbrev pub Backs : Geometry → Window → List Entry → ℕ → SectorBytes → Block → Type 0
Backs geometry w l d sectors b =
    (p i j : ℕ) → d ≤ p → p ≤ length l → i < geometry.size b → j < geometry.size b → IsClaimed (take p l) b → told (take p l) b j ≡ None
    → Shows geometry sectors b i (member w (commits (drop p l))) (w.was_torn (commits (drop p l)))

-- What recovery may have to write can be written: the block's body after a beginning of the list can be spelled, or these sectors have it.
abbrev pub Fits : Geometry → Window → List Entry → ℕ → SectorBytes → Block → Type 0
Fits geometry w l d sectors b =
    (p i : ℕ) → d ≤ p → p ≤ length l → i < geometry.size b → IsClaimed (take p l) b
    → (geometry.has_spelling b (member w (commits (drop p l)) b) ≡ true) ⊎ (geometry.decode b sectors i ≡ member w (commits (drop p l)) b i)

-- a block with an update in the list is covered whole by it
abbrev pub CoversWhole : Geometry → List Entry → Type 0
CoversWhole geometry l = (b : Block) (i : ℕ) → i < geometry.size b → has_update l b ≡ true → first_undo l b i ≢ None

-- The facts of one list of entries from which recovery may read, or is going to. Of the exempt blocks the disk part isn't known yet.
pub record Stands (geometry : Geometry) (w : Window) (disk : Disk) (dirty : Block → Bool) (l : List Entry) (d : ℕ) (owed damp : Block → Bool) : Type 0 where
  pub within : d ≤ length l
  pub tells : Tells geometry w l d
  pub whole : CoversWhole geometry l
  -- if the open transaction ended now, the list would tell the present bodies
  pub ready : w.is_open ≡ true → (b : Block) (i : ℕ) → i < geometry.size b → last_said (ended_with w.tx l) l b ≢ Some true → IsReadyAt w l b i
  -- a dirty block has an update in the list, and so has one that the open transaction changed
  pub holds : (b : Block) → dirty b ≡ true → owed b ≡ false → has_update l b ≡ true
  pub drafts : (b : Block) → has_update w.draft b ≡ true → has_update l b ≡ true
  -- what a read gives of a block backs the list, and so does what a crash may leave of it
  pub reads : (b : Block) → owed b ≡ false → Backs geometry w l d (seen disk) b
  pub backs : (sectors : SectorBytes) (b : Block) → owed b ≡ false → damp b ≡ false → CanLeave disk sectors → Backs geometry w l d sectors b
  pub fit_reads : (b : Block) → owed b ≡ false → Fits geometry w l d (seen disk) b
  pub fits : (sectors : SectorBytes) (b : Block) → owed b ≡ false → damp b ≡ false → CanLeave disk sectors → Fits geometry w l d sectors b

-- What the list says of rivals. A block that a checkpoint owes may have no update in its list, and then the rivals have none either.
pub record Shades (draft : List Entry) (dirty dead owed : Block → Bool) (l : List Entry) : Type 0 where
  -- the last update of a block that is dirty, or that the open transaction changed, stands behind each of a rival
  pub of_draft : (b x : Block) → are_rivals b x ≡ true → has_update draft b ≡ true → is_behind l b x ≡ true
  pub of_dirty : (b x : Block) → are_rivals b x ≡ true → dirty b ≡ true → (is_behind l b x ≡ true) ⊎ ((owed b ≡ true) × (has_update l x ≡ false))
  -- behind each update of a dead block stands one of a rival
  pub of_dead : (x : Block) → dead x ≡ true → ((has_update l x ≡ true) × IsOusted l x) ⊎ ((owed x ≡ true) × (has_update l x ≡ false))

-- no block
abbrev pub none : Block → Bool
none b = false

-- the block is dirty, or a give-up would make it so
abbrev pub is_held : Store → Block → Bool
is_held s b = s.dirty b || has_update s.window.draft b

-- An entry of a store: it has as many undo bytes as redo bytes, and its block is known.
pub record IsStored (geometry : Geometry) (e : Entry) : Type 0 where
  pub level : IsLevel e
  pub known : (b : Block) → updates b e.act ≡ true → 0 < geometry.size b

-- the facts that every store keeps
pub record IsSound (geometry : Geometry) (s : Store) : Type 0 where
  pub oldest : Stands geometry s.window s.disk s.dirty s.log s.synced none none
  pub next : s.begun ≡ true → Stands geometry s.window s.disk s.dirty (drop s.place s.log) (s.synced - s.place) s.owed s.due
  pub entries : AllByRecursion (IsStored geometry) s.log
  pub shades : Shades s.window.draft s.dirty s.dead none s.log
  pub shades_next : s.begun ≡ true → Shades s.window.draft s.dirty s.dead s.owed (drop s.place s.log)
  -- of two rivals one at most is held, and only known blocks are; a dead one isn't
  pub lone : (b x : Block) → are_rivals b x ≡ true → is_held s b ≡ true → is_held s x ≡ false
  pub known : (b : Block) → is_held s b ≡ true → 0 < geometry.size b
  pub still : (x : Block) → s.dead x ≡ true → is_held s x ≡ false
  -- what a checkpoint owes is dirty or dead
  pub owing : s.begun ≡ true → (b : Block) → s.owed b ≡ true → (s.dirty b || s.dead b) ≡ true
  -- where all entries are durable no dead block is left
  pub gone : s.synced ≡ length s.log → (x : Block) → s.dead x ≡ false
  -- a clean block stands on the disk
  pub clean : (b : Block) (i : ℕ) → s.dirty b ≡ false → s.dead b ≡ false → i < geometry.size b → Shows geometry (seen s.disk) b i s.window.body s.window.is_torn
  pub dry : (sectors : SectorBytes) (b : Block) (i : ℕ) → s.dirty b ≡ false → s.dead b ≡ false → s.wet b ≡ false → CanLeave s.disk sectors → i < geometry.size b → Shows geometry sectors b i s.window.body s.window.is_torn
  -- what was clean before the open transaction changed it stands on the disk as it was
  pub before : (b : Block) (i : ℕ) → has_update s.window.draft b ≡ true → s.stale b ≡ false → i < geometry.size b → Shows geometry (seen s.disk) b i (undone s.window.draft s.window.body) (s.window.was_torn 0)
  pub before_dry : (sectors : SectorBytes) (b : Block) (i : ℕ) → has_update s.window.draft b ≡ true → s.stale b ≡ false → s.wet b ≡ false → CanLeave s.disk sectors → i < geometry.size b → Shows geometry sectors b i (undone s.window.draft s.window.body) (s.window.was_torn 0)
  -- each body that is ever to be written was left by a change
  pub spelled : (b : Block) → (is_held s b || s.dead b) ≡ true → geometry.has_spelling b (s.window.body b) ≡ true
  pub spelled_before : (b : Block) → has_update s.window.draft b ≡ true → s.stale b ≡ true → geometry.has_spelling b (undone s.window.draft s.window.body b) ≡ true
  pub owed_stale : s.begun ≡ true → (b : Block) → s.owed b ≡ true → has_update s.window.draft b ≡ true → s.stale b ≡ true
  pub closed : s.window.is_open ≡ false → s.window.draft ≡ []
  -- what the open transaction hasn't changed is torn where it was before it
  pub even : (b : Block) → has_update s.window.draft b ≡ false → s.window.was_torn 0 b ≡ s.window.is_torn b
  pub counts : commits (drop s.synced s.log) ≡ length s.window.waiting
  pub synced : s.synced ≤ s.done
  pub done : s.done ≤ s.sent
  pub sent : s.sent ≤ length s.log
  pub place : s.begun ≡ true → s.place ≤ length s.log
  -- the restart page is written only when the checkpoint owes nothing more
  pub renamed : s.renamed ≡ true → (s.begun ≡ true) × (s.place ≤ s.synced)
  pub paid : s.renamed ≡ true → (b : Block) → (s.owed b ≡ false) × (s.due b ≡ false)
  pub replaced : s.replaced ≡ true → s.renamed ≡ true

-- What a crash leaves: the place from which recovery reads, how many entries stand in whole pages, and the sectors.
pub record Image : Type 0 where
  pub from : ℕ  -- the place that the chosen restart page names
  pub upto : ℕ  -- so many entries stand in whole pages
  pub sectors : SectorBytes

-- a crash at this moment may leave this
pub record MayLeave (s : Store) (image : Image) : Type 0 where
  pub from : (image.from ≡ 0) ⊎ ((s.renamed ≡ true) × (image.from ≡ s.place))
  pub low : s.synced ≤ image.upto
  pub high : image.upto ≤ s.sent
  pub disk : CanLeave s.disk image.sectors

-- the list that recovery reads
abbrev pub list_of : Store → Image → List Entry
list_of s image = take (image.upto - image.from) (drop image.from s.log)

-- A block that isn't shadowed is recovered as it is in a content: the bytes are equal, and where some byte isn't told the block is torn on the disk at most
-- where it is torn there.
pub record Restores (geometry : Geometry) (l : List Entry) (sectors : SectorBytes) (b : Block) (bytes : AllBytes) (torn : Block → Bool) : Type 0 where
  pub same : (i : ℕ) → i < geometry.size b → IsClaimed l b → unwrap_or (told l b i) (geometry.decode b sectors i) ≡ bytes b i
  pub torn_most : (i : ℕ) → i < geometry.size b → IsClaimed l b → told l b i ≡ None → geometry.torn b sectors ≡ true → torn b ≡ true

-- Recovery of the image to this content finds nothing that it can't write.
abbrev pub CanRestore : Geometry → Store → Image → AllBytes → Type 0
CanRestore geometry s image bytes = (b : Block) → IsClaimed (list_of s image) b
    → (geometry.has_spelling b (bytes b) ≡ true) ⊎ ((i : ℕ) → i < geometry.size b → geometry.decode b image.sectors i ≡ bytes b i)

-- the image recovers to this content
abbrev pub RecoversTo : Geometry → Store → Image → AllBytes → (Block → Bool) → Type 0
RecoversTo geometry s image bytes torn = (b : Block) → Restores geometry (list_of s image) image.sectors b bytes torn

-- Each image that a crash may leave recovers to a member of the window.
abbrev pub Refines : Geometry → Store → Type 0
Refines geometry s = (image : Image) → MayLeave s image → (k : ℕ) × (k ≤ length s.window.waiting) × RecoversTo geometry s image (member s.window k) (s.window.was_torn k)
