-- What each call makes of what a store keeps.
use Rattle.std.specs.Prelude.{◌≡◌, ℕ, suc, ◌+◌, ◌-◌, ◌*◌, ◌/◌, ◌≤◌, ◌==◌, ◌&&◌, ◌||◌, not, nat_le, Bool, true, false, if◌then◌else◌, List, [], ◌∷◌, ◌++◌, map, replicate, slice_index, Option, Some, None, is_some, unwrap_or}
use Rattle.std.specs.List.{list_any, range_with_len}
use Rattle.std.specs.Option.{option_or}
use Rattle.log_area.specs.disk_model.declared.block.Block.{Block}
use Rattle.log_area.specs.disk_model.declared.block.Body.{Body}
use Rattle.log_area.specs.disk_model.declared.block.BlockKind.{BlockKind}
use Rattle.log_area.specs.disk_model.declared.block.BlockKind.TheVariants.{Plain, FileRec, Index}
use Rattle.log_area.specs.disk_model.Bytes.{written}
use Rattle.log_area.specs.disk_model.Sectors.{same_block, are_rivals}
use Rattle.log_area.specs.log_model.declared.entry.Act.{Act}
use Rattle.log_area.specs.log_model.declared.entry.Act.TheVariants.{Commit}
use Rattle.log_area.specs.log_page.declared.places.LogPlace.{LogPlace}
use Rattle.log_area.specs.Areas.{LogAreaOf, ring_size, place_at, number_lsn, page_to_send, sealed_area, written_area, synced_area, named_area}
use Rattle.txn_model.specs.declared.mark.Mark.{Mark}
use Rattle.txn_model.specs.Values.{no_mark, StoreFacts, put_at, take_at}
use Rattle.txn_model.specs.Pieces.{logged_acts, log_with, last_of, ends_with}

-- a store at its start, on a log without entries
abbrev pub first_facts : LogPlace → LogAreaOf → List Block → StoreFacts
first_facts place log found = record {
  place = place;
  log = log;
  found = found;
  body = λ b. None;
  mark = λ b. no_mark;
  before = λ b. None;
  is_open = false;
  tx = 1;
  last = 0;
  commits = 0;
  durable = 0;
  ends = replicate (ring_size log) 0;
  noted = None;
}

-- ---- calls in memory

abbrev pub begun_facts : StoreFacts → StoreFacts
begun_facts f = record f { is_open = true; last = 0 }

-- the body of the block from before the open transaction, where this is the present one
abbrev pub body_before : StoreFacts → Block → Body → Body
body_before f c present = unwrap_or (f.before c) present

-- The marks after a change, where the pages before this one have its entries. The block is dirty and stands whole in the log, dirty rivals are dead, and no
-- rival stands whole.
abbrev pub changed_mark : ℕ → Mark → Mark
changed_mark until m = record m { dirty = true; dead = false; imaged = true; until = until }

abbrev pub rival_mark : ℕ → Mark → Mark
rival_mark until m = record m { dirty = false; dead = m.dead || m.dirty; imaged = false; killed = if m.dirty then until else m.killed }

abbrev pub changed_marks : Block → ℕ → (Block → Mark) → Block → Mark
changed_marks c until marks b = if same_block b c then changed_mark until (marks b) else (if are_rivals c b then rival_mark until (marks b) else marks b)

-- A change of the block: these bytes from this place on, over its present body. It logs these acts.
abbrev pub change_acts : StoreFacts → (c : Block) (at : ℕ) (new : List ℕ) (present : Body) → List Act
change_acts f c at new present = logged_acts (f.mark c).imaged c at new (body_before f c present).bytes present.bytes

abbrev pub changed_facts : (c : Block) (at : ℕ) (new : List ℕ) (present : Body) → StoreFacts → StoreFacts
changed_facts c at new present f =
    let acts = change_acts f c at new present in
    let log = log_with f.log f.tx f.last acts in
    record f {
      log = log;
      body = put_at c (record { bytes = written at new present.bytes; torn = false }) f.body;
      mark = changed_marks c (suc log.sealed) f.mark;
      before = put_at c (body_before f c present) f.before;
      last = last_of f.log f.tx f.last acts;
      ends = ends_with f.log f.tx f.last f.commits f.ends acts;
    }

-- a commit, which the blocks of the transaction bear from now on
abbrev pub committed_marks : (Block → Option Body) → ℕ → (Block → Mark) → Block → Mark
committed_marks before n marks b = if is_some (before b) then record (marks b) { commit = n } else marks b

abbrev pub committed_facts : StoreFacts → StoreFacts
committed_facts f =
    let log = log_with f.log f.tx f.last (Commit ∷ []) in
    record f {
      log = log;
      mark = committed_marks f.before (suc f.commits) f.mark;
      before = λ b. None;
      is_open = false;
      tx = suc f.tx;
      last = 0;
      commits = suc f.commits;
      ends = ends_with f.log f.tx f.last (suc f.commits) f.ends (Commit ∷ []);
    }

-- The open transaction is given up: its blocks have the bodies from before it, are dirty, and don't stand whole in the log.
abbrev pub given_up_marks : (Block → Option Body) → (Block → Mark) → Block → Mark
given_up_marks before marks b = if is_some (before b) then record (marks b) { dirty = true; dead = false; imaged = false } else marks b

abbrev pub given_up_facts : StoreFacts → StoreFacts
given_up_facts f = record f {
  body = λ b. option_or (f.before b) (f.body b);
  mark = given_up_marks f.before f.mark;
  before = λ b. None;
  is_open = false;
  tx = suc f.tx;
  last = 0;
}

-- ---- steps

abbrev pub sealed_facts : StoreFacts → StoreFacts
sealed_facts f = record f { log = sealed_area f.log }

-- A checkpoint begins: the page that is filled is sealed, and the next one is noted. It owes each block that is dirty or dead, and what was written since the last
-- sync is due; no block stands whole in the log from there on.
abbrev pub noted_mark : Mark → Mark
noted_mark m = record m { owed = m.dirty || m.dead; due = m.wet; imaged = false }

abbrev pub noted_facts : StoreFacts → StoreFacts
noted_facts f = record f { log = sealed_area f.log; mark = λ b. noted_mark (f.mark b); noted = Some (sealed_area f.log).sealed }

-- a page was written, and one was sent in a write that failed
abbrev pub written_facts : StoreFacts → StoreFacts
written_facts f = record f { log = written_area f.log }

abbrev pub sent_facts : ℕ → StoreFacts → StoreFacts
sent_facts check f = record f { log = record f.log { check = Some check } }

-- the LSN of the front of a page, by which a restart page names it
abbrev pub front_lsn : LogAreaOf → ℕ → ℕ
front_lsn log page = number_lsn log page 0x40

-- A checkpoint that noted this page may end by a restart page: nothing that it noted is still to be written out or synced, the pages before the noted one are
-- durable, and no restart page was written since the last sync.
pub record MayNameNoted (f : StoreFacts) (page : ℕ) : Type 0 where
  pub noted : f.noted ≡ Some page
  pub paid : (b : Block) → ((f.mark b).owed ≡ false) × ((f.mark b).due ≡ false)
  pub durable : page ≤ f.log.synced
  pub unnamed : f.log.named ≡ None

-- a restart page was written that names this page, and one was sent in a write that failed
abbrev pub named_facts : ℕ → StoreFacts → StoreFacts
named_facts page f = record f { log = named_area (front_lsn f.log page) f.log }

abbrev pub naming_facts : ℕ → Bool → ℕ → StoreFacts → StoreFacts
naming_facts page clean check f = record f { log = record f.log { sent = Some (record { page = page_to_send f.log (front_lsn f.log page) clean; check = check }) } }

-- A dead body leaves at a sync by which the pages before this one are durable, where they have the change that killed it.
abbrev pub is_buried : ℕ → Mark → Bool
is_buried synced m = m.dead && nat_le m.killed synced

abbrev pub synced_mark : ℕ → Mark → Mark
synced_mark synced m = record m { dead = m.dead && not (is_buried synced m); wet = false; owed = m.owed && not (is_buried synced m); due = false }

-- so many commits are known durable after such a sync: those that the last page which became durable tells
abbrev pub durable_after : LogAreaOf → List ℕ → ℕ → ℕ
durable_after log ends durable = if log.synced == log.done then durable else slice_index ends (place_at log (log.done - 1))

-- A sync went well. Where a restart page was written, it frees the log up to the place that this names, and the checkpoint has ended.
abbrev pub synced_facts : StoreFacts → StoreFacts
synced_facts f =
    let log = synced_area f.log in
    record f {
      log = log;
      body = λ b. if is_buried log.synced (f.mark b) then None else f.body b;
      mark = λ b. synced_mark log.synced (f.mark b);
      durable = durable_after f.log f.ends f.durable;
      noted = if is_some f.log.named then None else f.noted;
    }

-- ---- write-outs

-- the blocks of other kinds that may share a sector with this one
abbrev pub plain_at : ℕ → Block
plain_at first = record { first = first; kind = Plain }

abbrev pub record_at : ℕ → Block
record_at n = record { first = 2 * n; kind = FileRec }

abbrev pub index_at : ℕ → Block
index_at n = record { first = 8 * n; kind = Index }

-- of a block that begins where its kind may begin: those that begin where theirs may
abbrev pub rivals_of : Block → List Block
rivals_of b = by_kind b.kind
  where
    by_kind : BlockKind → List Block
    by_kind Plain = record_at (b.first / 2) ∷ index_at (b.first / 8) ∷ []
    by_kind FileRec = plain_at b.first ∷ plain_at (b.first + 1) ∷ index_at (b.first / 8) ∷ []
    by_kind Index = map plain_at (range_with_len b.first 8) ++ map record_at (range_with_len (b.first / 2) 4)

-- a checkpoint waits for a sync after the block's write: it noted the block, or a dead rival
abbrev pub is_noted : (Block → Mark) → Block → Bool
is_noted marks b = (marks b).owed || list_any (λ c. (marks c).owed) (rivals_of b)

-- the marks of the block and of its rivals after a write-out that failed, and after one that answered Ok
abbrev pub sent_out_marks : Block → (Block → Mark) → Block → Mark
sent_out_marks b marks c =
    if same_block c b then record (marks c) { wet = true; due = (marks c).due || is_noted marks b }
    else (if are_rivals b c then record (marks c) { dead = false; owed = false } else marks c)

abbrev pub written_out_marks : Block → (Block → Mark) → Block → Mark
written_out_marks b marks c =
    if same_block c b then record (marks c) { dirty = false; wet = true; owed = false; due = (marks c).due || is_noted marks b }
    else (if are_rivals b c then record (marks c) { dead = false; owed = false } else marks c)

-- A block that is written out: dirty, changed by no open transaction and by no commit that isn't durable, and its updates stand in durable pages.
abbrev pub is_ready : StoreFacts → Block → Bool
is_ready f b = (f.mark b).dirty && not (is_some (f.before b)) && nat_le (f.mark b).commit f.durable && nat_le (f.mark b).until f.log.synced

-- A write-out went well: the body is the disk's, and so are those of its rivals; or it failed.
abbrev pub written_out_facts : Block → StoreFacts → StoreFacts
written_out_facts b f = record f { body = λ c. if same_block c b || are_rivals b c then None else f.body c; mark = written_out_marks b f.mark }

abbrev pub sent_out_facts : Block → StoreFacts → StoreFacts
sent_out_facts b f = record f { body = λ c. if are_rivals b c then None else f.body c; mark = sent_out_marks b f.mark }

-- A body without a spelling is brought back by a give-up alone, over sectors that have it: these were written as they stand, and no rival changes.
abbrev pub again_facts : Block → StoreFacts → StoreFacts
again_facts b f = record f { body = take_at b f.body; mark = λ c. if same_block c b then record (f.mark c) { dirty = false; wet = true; owed = false; due = (f.mark c).due || (f.mark c).owed } else f.mark c }
