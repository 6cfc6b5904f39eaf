use Rattle.std.proofs.Common.{◌≡◌, ◌-◌, ◌≤◌, ◌++◌, length, replicate, vec_capacity, None}
use Rattle.map_change.proofs.applying.fill_files.Given as goal

abbrev pub invariant-loop-files : goal.invariant-loop-files
invariant-loop-files l = record {
  items : l.files.items ++ replicate (l.count - length l.files.items) None ≡ l.initial.files.items ++ replicate (l.count - length l.initial.files.items) None;
  room : l.count ≤ vec_capacity l.files;
}

abbrev pub decreases-loop-files : goal.decreases-loop-files
decreases-loop-files l = l.count - length l.files.items
