-- Runs of a store, and what a crash at any moment of them leaves.
use Rattle.std.specs.Prelude.{◌≡◌, ◌⊎◌, ◌<◌, ◌≤◌, ℕ, ◌+◌, [], length, Bool, false}
use Rattle.log_model.specs.disk_model.declared.block.Block.{Block}
use Rattle.log_model.specs.disk_model.Sectors.{same_block, are_rivals}
use Rattle.sector_device.specs.Disks.{Disk}
use Rattle.store_model.specs.Logs.{AllBytes, has_update}
use Rattle.store_model.specs.Geometry.{SectorBytes, Geometry, CanLeave, Shows}
use Rattle.store_model.specs.Stores.{Store, Window, member, Image, MayLeave, Restores, RecoversTo, list_of, none}
use Rattle.store_model.specs.Events.{Step}
use Rattle.store_model.specs.Events.Step.{change, commit, give_up, sync, sync_frees, write_out, write_out_fails}

-- the commits of an event
abbrev pub commits_of : (geometry : Geometry) (s s' : Store) → Step geometry s s' → ℕ
commits_of geometry s s' (commit lsn previous a) = 1
commits_of geometry s s' _ = 0

-- a run from a store to a later one, with so many commits
pub data Run (geometry : Geometry) (s : Store) : ℕ → Store → Type 0 where
  start : Run geometry s 0 s
  on : (n : ℕ) (t u : Store) → Run geometry s n t → (step : Step geometry t u) → Run geometry s (commits_of geometry t u step + n) u

-- a store as a mount leaves it: an empty list, and nothing dirty
abbrev pub mounted : ℕ → AllBytes → (Block → Bool) → Disk → Store
mounted tx body torn disk = record {
  window = record { body = body; is_torn = torn; was_torn = λ k. torn; waiting = []; is_open = false; tx = tx; draft = [] };
  log = [];
  synced = 0;
  done = 0;
  sent = 0;
  begun = false;
  place = 0;
  renamed = false;
  replaced = false;
  owed = none;
  due = none;
  dirty = none;
  dead = none;
  stale = none;
  wet = none;
  disk = disk;
}

-- whatever a crash leaves of this disk has these bodies
abbrev pub Bears : Geometry → Disk → AllBytes → (Block → Bool) → Type 0
Bears geometry disk body torn = (sectors : SectorBytes) (b : Block) (i : ℕ) → CanLeave disk sectors → i < geometry.size b → Shows geometry sectors b i body torn

-- the event makes the block what a read gives: a rival is written over it, or its body, which was dead, leaves
abbrev pub harms : (geometry : Geometry) (s s' : Store) → Step geometry s s' → Block → Bool
harms geometry s s' (write_out b c d e f g) x = are_rivals b x
harms geometry s s' (write_out_fails b c d e f) x = are_rivals b x
harms geometry s s' (sync gone a b) x = gone x
harms geometry s s' (sync_frees gone a b) x = gone x
harms geometry s s' _ x = false

-- the event makes another present body of the block, or may do so: a change of it, its return by a give-up, or what harms it
abbrev pub alters : (geometry : Geometry) (s s' : Store) → Step geometry s s' → Block → Bool
alters geometry s s' (change c us a) x = same_block x c
alters geometry s s' (give_up a) x = has_update s.window.draft x
alters geometry s s' (write_out b c d e f g) x = are_rivals b x
alters geometry s s' (write_out_fails b c d e f) x = are_rivals b x
alters geometry s s' (sync gone a b) x = gone x
alters geometry s s' (sync_frees gone a b) x = gone x
alters geometry s s' _ x = false

-- no event of the run harms the block
abbrev pub Spares : (geometry : Geometry) (s : Store) (n : ℕ) (t : Store) → Run geometry s n t → Block → Type 0
Spares geometry s n t start x = Unit {0}
Spares geometry s n t (on m u v run step) x = Spares geometry s m u run x × (harms geometry u t step x ≡ false)

-- The window has moved on by so many commits: of this block, each member that is left is one of before, or newer.
pub record Moves (n : ℕ) (before after : Window) (b : Block) : Type 0 where
  pub each : (k i : ℕ) → n + k ≤ length after.waiting → (k ≤ length before.waiting) × (member after (n + k) b i ≡ member before k b i) × (after.was_torn (n + k) b ≡ before.was_torn k b)

-- An image that a crash may leave now recovers to the content after a commit since an earlier moment, or, on the blocks that were spared since, to a member
-- of the window of that moment.
abbrev pub SinceThen : (geometry : Geometry) (s : Store) (n : ℕ) (t : Store) → Run geometry s n t → Type 0
SinceThen geometry s n t run = (image : Image) → MayLeave t image →
    ((k : ℕ) × (k < n) × (k ≤ length t.window.waiting) × RecoversTo geometry t image (member t.window k) (t.window.was_torn k))
    ⊎ ((k : ℕ) × (k ≤ length s.window.waiting) × ((b : Block) → Spares geometry s n t run b → Restores geometry (list_of t image) image.sectors b (member s.window k) (s.window.was_torn k)))
