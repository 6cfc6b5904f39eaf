-- When a step may be taken, what it makes of the facts of a store, and how much is left to do.
use Rattle.std.specs.Prelude.{◌≡◌, ◌≢◌, ℕ, ◌+◌, ◌-◌, ◌*◌, ◌<◌, ◌≤◌, Bool, true, false, if◌then◌else◌, Some, None}
use Rattle.disk_model.specs.declared.block.Block.{Block}
use Rattle.flush_policy.specs.declared.facts.Facts.{Facts}
use Rattle.flush_policy.specs.declared.facts.StoreStep.{StoreStep}
use Rattle.flush_policy.specs.declared.facts.StoreStep.TheVariants.{SealPage, WritePage, SyncDevice, WriteOut, BeginCheckpoint, WriteRestart}

-- all that was written is durable: the pages of the log too, but for the one that is filled
pub record IsSynced (f : Facts) : Type 0 where
  pub sealed : f.sealed ≡ 0
  pub unsynced : f.unsynced ≡ false

-- The step may be taken, where no transaction is open.
abbrev pub MayTake : Facts → StoreStep → Type 0
MayTake f SealPage = f.filling ≡ true
MayTake f WritePage = 0 < f.sealed
MayTake f SyncDevice = Unit {0}
MayTake f (WriteOut b) = f.ready ≡ Some b
MayTake f BeginCheckpoint = (f.fresh ≡ true) × (f.begun ≡ false) × (f.unsynced ≡ false)
MayTake f WriteRestart = (f.begun ≡ true) × (f.noted_left ≡ 0) × IsSynced f

-- What can be of a store with so many dirty blocks. A ready block is dirty; and where no page is filled and all is durable, a dirty block is ready, and so is
-- what a checkpoint still waits for.
pub record CanBe (dirty : ℕ) (f : Facts) : Type 0 where
  pub ready : (b : Block) → f.ready ≡ Some b → 0 < dirty
  pub waits : f.filling ≡ false → IsSynced f → f.ready ≡ None → dirty ≡ 0
  pub noted : f.filling ≡ false → IsSynced f → f.begun ≡ true → f.noted_left ≤ dirty

-- nothing is left to do
pub record IsDone (dirty : ℕ) (f : Facts) : Type 0 where
  pub filling : f.filling ≡ false
  pub synced : IsSynced f
  pub clean : dirty ≡ 0
  pub begun : f.begun ≡ false
  pub fresh : f.fresh ≡ false

-- What a step that answers Ok makes of the facts: a seal leaves nothing filled and one page more sealed.
abbrev pub filling_after : StoreStep → Facts → Bool
filling_after SealPage f = false
filling_after BeginCheckpoint f = false
filling_after step f = f.filling

abbrev pub sealed_after : StoreStep → Facts → ℕ
sealed_after SealPage f = f.sealed + 1
sealed_after BeginCheckpoint f = if f.filling then f.sealed + 1 else f.sealed
sealed_after WritePage f = f.sealed - 1
sealed_after step f = f.sealed

-- what is written isn't durable until a sync
abbrev pub unsynced_after : StoreStep → Facts → Bool
unsynced_after WritePage f = true
unsynced_after (WriteOut b) f = true
unsynced_after WriteRestart f = true
unsynced_after SyncDevice f = false
unsynced_after step f = f.unsynced

-- a checkpoint has begun until its restart page is written
abbrev pub begun_after : StoreStep → Facts → Bool
begun_after BeginCheckpoint f = true
begun_after WriteRestart f = false
begun_after step f = f.begun

abbrev pub fresh_after : StoreStep → Facts → Bool
fresh_after BeginCheckpoint f = false
fresh_after step f = f.fresh

-- the block that is written out is dirty no more
abbrev pub dirty_after : StoreStep → ℕ → ℕ
dirty_after (WriteOut b) dirty = dirty - 1
dirty_after step dirty = dirty

-- The facts of a store, of which so many blocks are dirty, become these by a step that answers Ok. A sync alone may free pages of the ring.
pub record Becomes (step : StoreStep) (dirty : ℕ) (f : Facts) (left : ℕ) (g : Facts) : Type 0 where
  pub filling : g.filling ≡ filling_after step f
  pub sealed : g.sealed ≡ sealed_after step f
  pub unsynced : g.unsynced ≡ unsynced_after step f
  pub begun : g.begun ≡ begun_after step f
  pub fresh : g.fresh ≡ fresh_after step f
  pub counts : left ≡ dirty_after step dirty
  pub pages : g.pages ≡ f.pages
  pub used : g.pages_used ≤ f.pages_used
  pub freed : step ≢ SyncDevice → g.pages_used ≡ f.pages_used

abbrev pub so_many : Bool → ℕ
so_many b = if b then 1 else 0

-- How much is left to do: more than all steps that are to come.
abbrev pub to_do : ℕ → Facts → ℕ
to_do dirty f = 5 * so_many f.fresh + 4 * so_many f.filling + 3 * f.sealed + 2 * (so_many f.begun + dirty) + so_many f.unsynced
