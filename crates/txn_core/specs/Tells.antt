-- What a store keeps beside its state, so that it can tell of itself without a walk.
use Rattle.std.specs.Prelude.{◌≡◌, ℕ, ◌-◌, ◌^◌, ◌<◌, ◌≤◌, ◌&&◌, nat_le, Bool, true, false, min, if◌then◌else◌, List, length, count_by, Option, Some, None, IfSome, is_some}
use Rattle.device_blocks.specs.disk_model.declared.block.Block.{Block}
use Rattle.device_blocks.specs.disk_model.Sectors.{same_block}
use Rattle.txn_laws.specs.log_page.Places.{sequence_bits}
use Rattle.device_blocks.specs.log_area.Areas.{LogAreaOf, lap_at, next_number}
use Rattle.txn_laws.specs.block_pool.Numbers.{block_number}
use Rattle.txn_laws.specs.txn_model.declared.mark.Mark.{Mark}
use Rattle.txn_laws.specs.txn_model.Values.{StoreFacts}
use Rattle.txn_laws.specs.txn_model.Calls.{front_lsn, is_ready}
use Rattle.txn_laws.specs.txn_model.Told.{is_left}
use Rattle.txn_core.specs.declared.telling.Telling.{Telling}

-- some block was written since the last sync, or none
pub record TellsWet (mark : Block → Mark) (wrote : Bool) : Type 0 where
  pub dry : wrote ≡ false → (b : Block) → (mark b).wet ≡ false
  pub some : wrote ≡ true → (b : Block) × ((mark b).wet ≡ true)

-- so many blocks does a checkpoint wait for, by a count that stays at its type's end
pub record TellsLeft (mark : Block → Mark) (count : ℕ) : Type 0 where
  pub blocks : List Block
  pub each : (b : Block) → count_by (same_block b) blocks ≡ (if is_left (mark b) then 1 else 0)
  pub counted : count ≡ min (length blocks) (2 ^ 64 - 1)

-- the changes of a block with this mark are durable where these commits and pages are, and it isn't written out
abbrev pub is_durable : ℕ → ℕ → Mark → Bool
is_durable commits pages m = m.dirty && nat_le m.commit commits && nat_le m.until pages

-- the lowest of the blocks that pass from this number on, if any
abbrev pub IsLowestFrom : (Block → Bool) → ℕ → Option Block → Type 0
IsLowestFrom ready n (Some b) = (n ≤ block_number b) × (ready b ≡ true) × ((c : Block) → n ≤ block_number c → ready c ≡ true → block_number b ≤ block_number c)
IsLowestFrom ready n None = (c : Block) → n ≤ block_number c → ready c ≡ false

abbrev pub IsLowest : (Block → Bool) → Option Block → Type 0
IsLowest ready o = IsLowestFrom ready 0 o

-- where this was the lowest of some blocks, and no more pass now, that one is the lowest now
abbrev pub StaysLowest : (Block → Bool) → Option Block → Option Block → Type 0
StaysLowest ready old new = (before : Block → Bool) → IsLowest before old → ((b : Block) → ready b ≡ true → before b ≡ true) → IsLowest ready new

-- The place that a checkpoint noted has this LSN, and a restart page that was sent names it.
pub record TellsFront (a : LogAreaOf) (noted : Option ℕ) (front : ℕ) : Type 0 where
  pub page : IfSome noted (λ n. lap_at a n < 2 ^ sequence_bits a.pages → front ≡ front_lsn a n)
  pub sent : IfSome a.sent (λ x. (is_some noted ≡ true) × (x.page.oldest ≡ front))
  pub apart : is_some a.named ≡ true → a.sent ≡ None

-- no restart page was sent that says that the log is closed
abbrev pub LeavesOpen : LogAreaOf → Type 0
LeavesOpen a = IfSome a.sent (λ x. x.page.clean ≡ false)

pub record IsTold (f : StoreFacts) (t : Telling) : Type 0 where
  pub wet : TellsWet f.mark t.wrote
  pub left : TellsLeft f.mark t.left
  pub ready : IsLowest (is_ready f) t.ready
  pub front : TellsFront f.log f.noted t.front
  pub unmarked : LeavesOpen f.log

-- what was written of the log is durable
pub record IsAllDone (a : LogAreaOf) : Type 0 where
  pub pages : a.done ≡ a.synced
  pub unnamed : a.named ≡ None

-- the least entry, a commit, has a lap
abbrev pub HasLap : LogAreaOf → Type 0
HasLap a = lap_at a (next_number a 0x58) < 2 ^ sequence_bits a.pages
