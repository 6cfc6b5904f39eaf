-- What a store of blocks holds in memory, and what of it is always so.
use Rattle.std.specs.Prelude.{◌≡◌, ℕ, ◌+◌, ◌*◌, ◌^◌, ◌<◌, ◌≤◌, ◌||◌, Bool, true, false, List, length, Option, None, IfSome, is_some}
use Rattle.txn_log.specs.disk_model.declared.block.Block.{Block}
use Rattle.txn_log.specs.disk_model.declared.block.Body.{Body}
use Rattle.txn_log.specs.disk_model.Sectors.{sectors, are_rivals}
use Rattle.txn_log.specs.log_model.Logs.{is_in_grid}
use Rattle.txn_log.specs.log_page.declared.places.LogPlace.{LogPlace}
use Rattle.txn_log.specs.log_area.Areas.{LogAreaOf, ring_size}
use Rattle.txn_log.specs.store_pools.declared.kept.KeptBody.{KeptBody}
use Rattle.txn_log.specs.store_pools.Pools.{bodies_of, marks_of}
use Rattle.txn_log.specs.txn_model.declared.mark.Mark.{Mark}
use Rattle.txn_log.specs.txn_model.Values.{no_mark, StoreFacts}
use Rattle.txn_log.specs.txn_model.Calls.{change_acts}
use Rattle.txn_log.specs.txn_model.Appending.{MayAppendAll}

-- What a store holds: its fields, with lists for its pools.
pub record StateOf : Type 0 where
  pub place : LogPlace
  pub log : LogAreaOf
  pub found : List Block
  pub bodies : List (Block × KeptBody)
  pub marks : List (Block × Mark)
  pub before : List (Block × KeptBody)
  pub is_open : Bool
  pub tx : ℕ
  pub last : ℕ
  pub commits : ℕ
  pub durable : ℕ
  pub ends : List ℕ
  pub noted : Option ℕ

-- the state of these fields
abbrev pub state_of : (place : LogPlace) (log : LogAreaOf) (found : List Block) (bodies : List (Block × KeptBody)) (marks : List (Block × Mark)) (before : List (Block × KeptBody)) (is_open : Bool) (tx last commits durable : ℕ) (ends : List ℕ) (noted : Option ℕ) → StateOf
state_of place log found bodies marks before is_open tx last commits durable ends noted = record {
  place = place;
  log = log;
  found = found;
  bodies = bodies;
  marks = marks;
  before = before;
  is_open = is_open;
  tx = tx;
  last = last;
  commits = commits;
  durable = durable;
  ends = ends;
  noted = noted;
}

-- the facts of a store, by blocks
abbrev pub facts_of : StateOf → StoreFacts
facts_of s = record {
  place = s.place;
  log = s.log;
  found = s.found;
  body = bodies_of s.bodies;
  mark = marks_of s.marks;
  before = bodies_of s.before;
  is_open = s.is_open;
  tx = s.tx;
  last = s.last;
  commits = s.commits;
  durable = s.durable;
  ends = s.ends;
  noted = s.noted;
}

-- the body has as many bytes as its block
abbrev pub HasSize : Block → Body → Type 0
HasSize b x = length x.bytes ≡ 512 * sectors b.kind

-- What is always so of the bodies and marks of a store: a block has a body exactly where it is dirty or dead, one of two rivals at most is dirty, and what the open
-- transaction changed is dirty. Blocks that have marks are in the grid, and those that have bodies on the device.
pub record KeepsBlocks (device : ℕ) (body : Block → Option Body) (mark : Block → Mark) (before : Block → Option Body) : Type 0 where
  pub kept : (b : Block) → is_some (body b) ≡ ((mark b).dirty || (mark b).dead)
  pub apart : (b : Block) → (mark b).dead ≡ true → (mark b).dirty ≡ false
  pub lone : (b c : Block) → are_rivals b c ≡ true → (mark b).dirty ≡ true → (mark c).dirty ≡ false
  pub changed : (b : Block) → is_some (before b) ≡ true → (mark b).dirty ≡ true
  pub marked : (b : Block) → is_in_grid b ≡ false → mark b ≡ no_mark
  pub inside : (b : Block) → is_some (body b) ≡ true → b.first + sectors b.kind ≤ device
  pub sized : (b : Block) → IfSome (body b) (HasSize b)
  pub sized_before : (b : Block) → IfSome (before b) (HasSize b)

-- Of its log: it lies where the place says, its places are counted, and a page that is noted was sealed before.
pub record KeepsLog (place : LogPlace) (log : LogAreaOf) (ends : List ℕ) (noted : Option ℕ) : Type 0 where
  pub pages_are : log.pages ≡ place.pages
  pub sectors_are : log.sectors ≡ place.device
  pub counted : length ends ≡ ring_size log
  pub noted_page : IfSome noted (λ n. n ≤ log.sealed)

-- Of its numbers: there are fewer than 2^32 transactions, and no more commits than those that ended.
pub record KeepsNumbers (is_open : Bool) (tx commits : ℕ) : Type 0 where
  pub some : 1 ≤ tx
  pub numbered : tx ≤ 2 ^ 32
  pub opened : is_open ≡ true → tx < 2 ^ 32
  pub committed : commits < tx

-- What is always so of a store.
pub record IsStore (f : StoreFacts) : Type 0 where
  pub blocks : KeepsBlocks f.place.device f.body f.mark f.before
  pub on_log : KeepsLog f.place f.log f.ends f.noted
  pub numbers : KeepsNumbers f.is_open f.tx f.commits

-- The open transaction may change the block in this way, where this is its present body: the block is in the grid and on the device, the bytes fit, no rival of the block
-- was changed by the transaction, and the log has room.
pub record MayChange (f : StoreFacts) (c : Block) (at : ℕ) (new : List ℕ) (present : Body) : Type 0 where
  pub opened : f.is_open ≡ true
  pub grid : is_in_grid c ≡ true
  pub inside : c.first + sectors c.kind ≤ f.place.device
  pub some : 0 < length new
  pub fits : at + length new ≤ 512 * sectors c.kind
  pub sized : HasSize c present
  pub alone : (x : Block) → are_rivals c x ≡ true → f.before x ≡ None
  pub room : MayAppendAll f.log f.tx f.last (change_acts f c at new present)
