-- Counting pages entry by entry.
use Rattle.std.specs.Prelude.{ℕ, ◌+◌, if◌then◌else◌, Bool, List, [], ◌∷◌, unwrap_or}
use Rattle.store_pools.specs.disk_model.declared.block.Block.{Block}
use Rattle.store_pools.specs.block_pool.Pools.{held}
use Rattle.store_pools.specs.Pools.{marks_of}
use Rattle.store_pools.specs.txn_model.declared.mark.Mark.{Mark}
use Rattle.txn_log.specs.Counts.{begins_page, free_after, capped}

-- so many pages with those that entries of these sizes begin
abbrev pub counted : ℕ → ℕ → List ℕ → ℕ
counted pages free [] = pages
counted pages free (bytes ∷ sizes) = counted (capped (pages + (if begins_page free bytes then 1 else 0))) (free_after free bytes) sizes

-- which blocks stand whole in the log, where these were told since the marks
abbrev pub imaged_in : List (Block × Bool) → List (Block × Mark) → Block → Bool
imaged_in told marks b = unwrap_or (held told b) (marks_of marks b).imaged
