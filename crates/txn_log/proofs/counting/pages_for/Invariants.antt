use Rattle.std.proofs.Common.{◌≡◌, ◌≤◌, drop}
use Rattle.store_pools.specs.Pools.{marks_of}
use Rattle.txn_log.specs.Counts.{sizes_of}
use Rattle.txn_log.specs.Counting.{counted, imaged_in}
use Rattle.txn_log.proofs.counting.pages_for.Given as goal

-- what is counted with the changes that are left is that of all
abbrev pub invariant-loop-change : goal.invariant-loop-change
invariant-loop-change l = record {
  below : l.filled.free ≤ 4096;
  counted : counted l.filled.pages l.filled.free (sizes_of (imaged_in l.told l.marks) (drop l.change-index l.changes)) ≡ counted 0 l.initial.filled.free (sizes_of (λ b. (marks_of l.marks b).imaged) l.changes);
}
