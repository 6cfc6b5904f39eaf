-- What a store is once nothing is left to write.
use Rattle.std.specs.Prelude.{◌≡◌, ◌≤◌, Bool, true, false, if◌then◌else◌, Option, Some, None, IfSome}
use Rattle.disk_model.specs.declared.block.Block.{Block}
use Rattle.found_stays.specs.log_area.Areas.{is_filling, used_pages}
use Rattle.flush_policy.specs.declared.facts.StoreStep.{StoreStep}
use Rattle.flush_policy.specs.declared.facts.StoreStep.TheVariants.{BeginCheckpoint, WriteRestart}
use Rattle.found_stays.specs.txn_model.declared.mark.Mark.{Mark}
use Rattle.found_stays.specs.txn_model.Values.{StoreFacts}
use Rattle.found_stays.specs.txn_model.Calls.{given_up_facts}
use Rattle.found_stays.specs.txn_core.Turns.{HasNext}

-- the step neither begins nor ends a checkpoint
abbrev pub drains : StoreStep → Bool
drains BeginCheckpoint = false
drains WriteRestart = false
drains step = true

-- that step, if it drains
abbrev pub draining : Option StoreStep → Option StoreStep
draining (Some step) = if drains step then Some step else None
draining None = None

-- The block is as it stands on the disk, durable, and no checkpoint waits for it.
pub record IsPlain (m : Mark) : Type 0 where
  pub clean : m.dirty ≡ false
  pub alive : m.dead ≡ false
  pub dry : m.wet ≡ false
  pub paid : m.owed ≡ false
  pub past : m.due ≡ false

-- All that a store held is written out and durable: no transaction is open, each commit is durable and so is each page of the log, and each block is as it stands on
-- the disk. A checkpoint may have begun.
pub record IsDrained (f : StoreFacts) : Type 0 where
  pub closed : f.is_open ≡ false
  pub durable : f.durable ≡ f.commits
  pub empty : is_filling f.log ≡ false
  pub written : f.log.done ≡ f.log.sealed
  pub synced : f.log.synced ≡ f.log.sealed
  pub unnamed : f.log.named ≡ None
  pub plain : (b : Block) → IsPlain (f.mark b)
  pub noted : IfSome f.noted (λ page. page ≤ f.log.sealed)

-- and the log has no entry: all of its ring is free, and no checkpoint has begun
pub record IsAtRest (f : StoreFacts) : Type 0 where
  pub drained : IsDrained f
  pub ended : f.noted ≡ None
  pub free : used_pages f.log ≡ 0

-- what a store keeps once no transaction is open
abbrev pub stopped_facts : StoreFacts → StoreFacts
stopped_facts f = if f.is_open then given_up_facts f else f

-- it is drained, and no restart page can be made
pub record IsUnmarked (f : StoreFacts) : Type 0 where
  pub drained : IsDrained f
  pub last : HasNext f.log → ⊥
