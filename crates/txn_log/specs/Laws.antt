-- What the pages that were counted are enough for.
use Rattle.std.specs.Prelude.{◌≡◌, ℕ, ◌+◌, ◌*◌, ◌^◌, ◌<◌, ◌≤◌, Bool, true, List, [], ◌∷◌, length}
use Rattle.store_pools.specs.disk_model.declared.block.Block.{Block}
use Rattle.store_pools.specs.disk_model.declared.block.Change.{Change}
use Rattle.store_pools.specs.disk_model.Sectors.{sectors}
use Rattle.store_pools.specs.log_model.declared.entry.Act.{Act}
use Rattle.store_pools.specs.log_model.declared.entry.Act.TheVariants.{Commit}
use Rattle.store_pools.specs.log_model.Logs.{is_in_grid}
use Rattle.store_pools.specs.log_page.Places.{page_bytes, entries_at, sequence_bits}
use Rattle.store_pools.specs.log_area.Areas.{LogAreaOf, IsLogArea, lap_at, free_pages}
use Rattle.store_pools.specs.txn_model.declared.mark.Mark.{Mark}
use Rattle.store_pools.specs.txn_model.Pieces.{logged_acts, log_with, last_of}
use Rattle.store_pools.specs.txn_model.Calls.{changed_marks}
use Rattle.store_pools.specs.txn_model.Appending.{MayAppendAll}
use Rattle.txn_log.specs.Counts.{imaged_after, pages_needed}

-- The numbers of a ring: its pages, and how far the one that is filled is.
pub record IsFilled (a : LogAreaOf) : Type 0 where
  pub some : 4 < a.pages
  pub few : a.pages < 2 ^ 52
  pub above : entries_at ≤ a.free
  pub below : a.free ≤ page_bytes
  pub order : a.oldest ≤ a.sealed

-- A transaction, whose last entry has this LSN, may begin so many pages of a log: they are free, and LSNs of their laps have 64 bits.
pub record HasRoom (a : LogAreaOf) (tx last count : ℕ) : Type 0 where
  pub ring : IsFilled a
  pub room : count ≤ free_pages a
  pub laps : lap_at a (a.sealed + count) < 2 ^ sequence_bits a.pages
  pub numbered : 1 ≤ tx
  pub tx_small : tx < 2 ^ 32
  pub last_small : last < 2 ^ 64

-- A change that is logged over these bodies of its block, from before the transaction and the present one: the block begins where its kind may, and there are bytes, which fit.
pub record IsLogged (c : Change) (before present : List ℕ) : Type 0 where
  pub grid : is_in_grid c.block ≡ true
  pub wide : c.block.first < 2 ^ 64
  pub some : 0 < length c.new
  pub fits : c.offset + length c.new ≤ 512 * sectors c.block.kind
  pub size_before : length before ≡ 512 * sectors c.block.kind
  pub size : length present ≡ 512 * sectors c.block.kind

-- its updates, where some blocks stand whole in the log
abbrev pub acts_of : (Block → Bool) → Change → (before present : List ℕ) → List Act
acts_of imaged c before present = logged_acts (imaged c.block) c.block c.offset c.new before present

-- Where there is room for as many pages as were counted for some changes, the first may be logged, then there is room for those of the rest, and as many fewer are free as
-- are counted; and where no change is left, a commit may be logged.
pub record PagesAreEnough : Type 0 where
  pub ring : (a : LogAreaOf) → IsLogArea a → IsFilled a
  pub change : (a : LogAreaOf) (imaged : Block → Bool) (c : Change) (changes : List Change) (tx last : ℕ) (before present : List ℕ) → IsLogged c before present
      → HasRoom a tx last (pages_needed a.free imaged (c ∷ changes)) → MayAppendAll a tx last (acts_of imaged c before present)
  pub rest : (a : LogAreaOf) (imaged : Block → Bool) (c : Change) (changes : List Change) (tx last : ℕ) (before present : List ℕ) → IsLogged c before present
      → HasRoom a tx last (pages_needed a.free imaged (c ∷ changes))
      → let log = log_with a tx last (acts_of imaged c before present) in HasRoom log tx (last_of a tx last (acts_of imaged c before present)) (pages_needed log.free (imaged_after c.block imaged) changes)
  pub falls : (a : LogAreaOf) (imaged : Block → Bool) (c : Change) (changes : List Change) (tx last : ℕ) (before present : List ℕ) → IsLogged c before present
      → HasRoom a tx last (pages_needed a.free imaged (c ∷ changes))
      → let log = log_with a tx last (acts_of imaged c before present) in pages_needed log.free (imaged_after c.block imaged) changes + free_pages a ≡ pages_needed a.free imaged (c ∷ changes) + free_pages log
  pub commit : (a : LogAreaOf) (imaged : Block → Bool) (tx last : ℕ) → HasRoom a tx last (pages_needed a.free imaged []) → MayAppendAll a tx last (Commit ∷ [])
  -- a change of no bytes is counted as none, and marks tell behind a change which blocks stand whole
  pub nothing : (free : ℕ) (imaged : Block → Bool) (c : Change) (changes : List Change) → c.new ≡ [] → pages_needed free imaged (c ∷ changes) ≡ pages_needed free imaged changes
  pub marks : (c : Block) (until : ℕ) (mark : Block → Mark) → (λ b. (changed_marks c until mark b).imaged) ≡ imaged_after c (λ b. (mark b).imaged)
