-- What a store keeps, by blocks: the bodies that aren't the disk's, what is marked of each block, and the counts of commits.
use Rattle.std.specs.Prelude.{ℕ, ◌||◌, Bool, false, if◌then◌else◌, List, Option, Some, None}
use Rattle.std.specs.List.{list_any, range_with_len}
use Rattle.log_area.specs.disk_model.declared.block.Block.{Block}
use Rattle.log_area.specs.disk_model.declared.block.Body.{Body}
use Rattle.log_area.specs.disk_model.Sectors.{sectors, same_block}
use Rattle.log_area.specs.sector_device.Disks.{is_within}
use Rattle.log_area.specs.log_page.declared.places.LogPlace.{LogPlace}
use Rattle.log_area.specs.Areas.{LogAreaOf, page_first}
use Rattle.txn_model.specs.declared.mark.Mark.{Mark}

-- a block that is plainly clean
abbrev pub no_mark : Mark
no_mark = record { dirty = false; dead = false; wet = false; owed = false; due = false; imaged = false; until = 0; commit = 0; killed = 0 }

-- What a store keeps.
pub record StoreFacts : Type 0 where
  pub place : LogPlace  -- where the log lies
  pub log : LogAreaOf
  pub found : List Block  -- the blocks by which the log is found
  pub body : Block → Option Body  -- of those that are dirty or dead
  pub mark : Block → Mark
  pub before : Block → Option Body  -- of those that the open transaction changed, from before it
  pub is_open : Bool
  pub tx : ℕ  -- the open transaction, or the next one
  pub last : ℕ  -- the LSN of the open transaction's last entry, 0 where it has none
  pub commits : ℕ
  pub durable : ℕ  -- so many of them are known durable
  pub ends : List ℕ  -- by the places of the ring: so many commits there were when an entry was last put into the page there
  pub noted : Option ℕ  -- the page that a checkpoint noted

-- the sector is one of the log's, or of a block by which the log is found
abbrev pub is_own : LogPlace → List Block → ℕ → Bool
is_own place found s =
    list_any (λ k. is_within (page_first place k) 8 s) (range_with_len 0 place.pages) || list_any (λ (b : Block). is_within b.first (sectors b.kind) s) found

abbrev pub own_of : StoreFacts → ℕ → Bool
own_of f = is_own f.place f.found

-- with this beside the block, or with nothing
abbrev pub put_at : {X : Type 0} → Block → X → (Block → Option X) → Block → Option X
put_at b x at c = if same_block c b then Some x else at c

abbrev pub take_at : {X : Type 0} → Block → (Block → Option X) → Block → Option X
take_at b at c = if same_block c b then None else at c
