use Rattle.std.proofs.Common.{◌≡◌, ◌+◌, ◌-◌, ◌≤◌, ◌++◌, map, length}
use Rattle.store_pools.specs.txn_model.Pieces.{cut, update_of_piece}
use Rattle.txn_log.proofs.acts.cut_acts.Given as goal

abbrev pub invariant-pieces : goal.invariant-pieces
invariant-pieces l = record {
  made : l.acts.items ++ map (update_of_piece l.block l.before l.after) (cut (3 - l.counter) l.from l.left) ≡ map (update_of_piece l.block l.before l.after) (cut 3 l.initial.from l.initial.left);
  in_before : l.from + l.left ≤ length l.before;
  in_after : l.from + l.left ≤ length l.after;
}
