-- What is always so of a store, beside what its state keeps by itself.
use Rattle.std.specs.Prelude.{◌≡◌, ℕ, ◌-◌, ◌^◌, ◌<◌, ◌≤◌, ◌||◌, true, false, Option, None, IfSome, is_some, slice_index, Some}
use Rattle.device_blocks.specs.disk_model.declared.block.Block.{Block}
use Rattle.txn_laws.specs.log_page.Places.{page_bytes, entries_at}
use Rattle.device_blocks.specs.log_area.Areas.{LogAreaOf, ring_size, place_at, used_pages}
use Rattle.txn_laws.specs.txn_model.declared.mark.Mark.{Mark}
use Rattle.txn_laws.specs.txn_model.Values.{StoreFacts}
use Rattle.txn_laws.specs.txn_model.Told.{pages_end}

-- The log's pages are filled, sealed, written and synced in order, no more of them than the ring has; and neither what a restart page names nor what a checkpoint noted
-- is before the oldest page; and the first is the second.
pub record KeepsOrder (a : LogAreaOf) (noted : Option ℕ) : Type 0 where
  pub pages_some : 4 < a.pages
  pub pages_few : a.pages < 2 ^ 52
  pub free_from : entries_at ≤ a.free
  pub free_upto : a.free ≤ page_bytes
  pub freed_pages : a.oldest ≤ a.synced
  pub synced_pages : a.synced ≤ a.done
  pub done_pages : a.done ≤ a.sealed
  pub within : used_pages a ≤ ring_size a
  pub names_page : IfSome a.named (λ n. (a.oldest ≤ n) × (n ≤ a.synced))
  pub notes_page : IfSome noted (λ n. a.oldest ≤ n)
  pub names_noted : IfSome a.named (λ n. noted ≡ Some n)

-- Of one mark, where so many pages are durable, the pages end before that one, and there were so many commits: what a checkpoint owes is dirty or dead, and what is due was
-- written; the block's updates stand on pages of the log, and so does what killed a dead body, which isn't durable.
pub record KeepsMark (synced last commits : ℕ) (m : Mark) : Type 0 where
  pub owed_is : m.owed ≡ true → (m.dirty || m.dead) ≡ true
  pub due_is : m.due ≡ true → m.wet ≡ true
  pub commit_is : m.commit ≤ commits
  pub until_is : m.until ≤ last
  pub killed_is : m.dead ≡ true → (synced < m.killed) × (m.killed ≤ last)

-- Of its commits: the last page tells them all, and where all pages are durable, all commits are.
pub record KeepsCommits (f : StoreFacts) : Type 0 where
  pub few : f.durable ≤ f.commits
  pub told : (k : ℕ) → slice_index f.ends k ≤ f.commits
  pub latest : f.log.synced < pages_end f → slice_index f.ends (place_at f.log (pages_end f - 1)) ≡ f.commits
  pub all_durable : pages_end f ≤ f.log.synced → f.durable ≡ f.commits

pub record IsKept (f : StoreFacts) : Type 0 where
  pub order : KeepsOrder f.log f.noted
  pub marks : (b : Block) → KeepsMark f.log.synced (pages_end f) f.commits (f.mark b)
  pub commits_are : KeepsCommits f
  pub shut : f.is_open ≡ false → (b : Block) → is_some (f.before b) ≡ false

-- a log of a session that was just opened: no page was begun, and no restart page waits for a sync
pub record IsBegun (a : LogAreaOf) : Type 0 where
  pub some : 4 < a.pages
  pub few : a.pages < 2 ^ 52
  pub free : a.free ≡ entries_at
  pub sealed : a.sealed ≡ 0
  pub done : a.done ≡ 0
  pub synced : a.synced ≡ 0
  pub oldest : a.oldest ≡ 0
  pub named : a.named ≡ None
  pub sent : a.sent ≡ None
