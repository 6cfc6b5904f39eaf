-- What a store tells of itself, and when its next step may be taken.
use Rattle.std.specs.Prelude.{◌≡◌, ℕ, ◌+◌, ◌-◌, ◌^◌, min, ◌<◌, ◌≤◌, ◌&&◌, ◌||◌, not, nat_lt, Bool, true, false, if◌then◌else◌, List, length, count_by, Some, None, IfSome, is_some, unwrap_or}
use Rattle.log_area.specs.disk_model.declared.block.Block.{Block}
use Rattle.log_area.specs.disk_model.Sectors.{same_block}
use Rattle.block_pool.specs.Numbers.{block_number}
use Rattle.log_area.specs.Areas.{is_filling, used_pages, ring_size, next_lsn}
use Rattle.flush_policy.specs.declared.facts.Facts.{Facts}
use Rattle.flush_policy.specs.declared.facts.StoreStep.{StoreStep}
use Rattle.flush_policy.specs.declared.facts.StoreStep.TheVariants.{SealPage, WritePage, SyncDevice, WriteOut, BeginCheckpoint, WriteRestart}
use Rattle.txn_model.specs.declared.mark.Mark.{Mark}
use Rattle.txn_model.specs.Values.{StoreFacts}
use Rattle.txn_model.specs.Calls.{is_ready, MayNameNoted}

-- nothing was written since the last sync that answered Ok: no page of the log, no restart page, and no block
pub record IsAllSynced (f : StoreFacts) : Type 0 where
  pub pages : f.log.done ≡ f.log.synced
  pub unnamed : f.log.named ≡ None
  pub dry : (b : Block) → (f.mark b).wet ≡ false

-- a checkpoint waits for the block: it noted it, or a dead rival of it, and it wasn't written out and synced since, or dropped
abbrev pub is_left : Mark → Bool
is_left m = m.owed || m.due

-- The blocks that a checkpoint waits for, each once.
abbrev pub AreLeft : StoreFacts → List Block → Type 0
AreLeft f blocks = (b : Block) → count_by (same_block b) blocks ≡ (if is_left (f.mark b) then 1 else 0)

-- a page of the log was used since the last checkpoint began: since the noted place, or since the oldest one where that has ended
abbrev pub is_fresh : StoreFacts → Bool
is_fresh f = nat_lt (unwrap_or f.noted f.log.oldest) (f.log.oldest + used_pages f.log)

-- What a store tells of what it keeps.
pub record FactsTold (f : StoreFacts) (told : Facts) : Type 0 where
  pub filling : told.filling ≡ is_filling f.log
  pub sealed : told.sealed ≡ f.log.sealed - f.log.done
  pub synced : told.unsynced ≡ false → IsAllSynced f
  pub unsynced : IsAllSynced f → told.unsynced ≡ false
  -- the lowest block that may be written out
  pub ready : (b : Block) → told.ready ≡ Some b → is_ready f b ≡ true
  pub lowest : (b c : Block) → told.ready ≡ Some b → is_ready f c ≡ true → block_number b ≤ block_number c
  pub none_ready : told.ready ≡ None → (b : Block) → is_ready f b ≡ false
  -- a checkpoint has begun until its restart page is written
  pub begun : told.begun ≡ (is_some f.noted && not (is_some f.log.named))
  pub fresh : told.fresh ≡ is_fresh f
  pub left : List Block
  pub are_left : AreLeft f left
  -- a count that stays at its type's end
  pub noted_left : told.noted_left ≡ min (length left) (2 ^ 64 - 1)
  pub used : told.pages_used ≡ used_pages f.log
  pub pages : told.pages ≡ ring_size f.log
  pub next : told.next ≡ next_lsn f.log 0x58

-- the blocks that are dirty, each once
abbrev pub AreDirty : StoreFacts → List Block → Type 0
AreDirty f blocks = (b : Block) → count_by (same_block b) blocks ≡ (if (f.mark b).dirty then 1 else 0)

-- the pages of the log end before this one
abbrev pub pages_end : StoreFacts → ℕ
pages_end f = f.log.sealed + (if is_filling f.log then 1 else 0)

-- What is always so of the marks of a store. What a checkpoint owes is dirty or dead, and what is due was written since the last sync; commits are among
-- those that were counted; updates stand on pages of the log, and so does what killed a dead body, which isn't durable.
pub record KeepsMarked (f : StoreFacts) : Type 0 where
  pub owed : (b : Block) → (f.mark b).owed ≡ true → ((f.mark b).dirty || (f.mark b).dead) ≡ true
  pub due : (b : Block) → (f.mark b).due ≡ true → (f.mark b).wet ≡ true
  pub commit : (b : Block) → (f.mark b).commit ≤ f.commits
  pub until : (b : Block) → (f.mark b).until ≤ pages_end f
  pub killed : (b : Block) → (f.mark b).dead ≡ true → (f.log.synced < (f.mark b).killed) × ((f.mark b).killed ≤ pages_end f)
  -- where no transaction is open none changed a block, and where all pages are durable all commits are
  pub closed : f.is_open ≡ false → (b : Block) → is_some (f.before b) ≡ false
  pub all : is_filling f.log ≡ false → f.log.sealed ≤ f.log.synced → f.durable ≡ f.commits

-- What is always so of a store: each block that is dirty has a body, and a page that a checkpoint noted is sealed.
pub record KeepsSteps (f : StoreFacts) : Type 0 where
  pub kept : (b : Block) → (f.mark b).dirty ≡ true → is_some (f.body b) ≡ true
  pub noted : IfSome f.noted (λ page. page ≤ f.log.sealed)

-- The step may be taken.
abbrev pub MayTakeStep : StoreFacts → StoreStep → Type 0
MayTakeStep f SealPage = is_filling f.log ≡ true
MayTakeStep f WritePage = f.log.done < f.log.sealed
MayTakeStep f SyncDevice = Unit {0}
MayTakeStep f (WriteOut b) = (is_ready f b ≡ true) × (is_some (f.body b) ≡ true)
MayTakeStep f BeginCheckpoint = (is_fresh f ≡ true) × (f.noted ≡ None) × (f.log.named ≡ None)
MayTakeStep f WriteRestart = (page : ℕ) × MayNameNoted f page
