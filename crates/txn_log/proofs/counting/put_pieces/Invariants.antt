use Rattle.std.proofs.Common.{◌≡◌, ℕ, ◌-◌, ◌≤◌, List, ◌++◌, map}
use Rattle.store_pools.specs.txn_model.Pieces.{cut}
use Rattle.txn_log.specs.Counts.{piece_size}
use Rattle.txn_log.specs.Counting.{counted}
use Rattle.txn_log.proofs.counting.put_pieces.Given as goal

abbrev pub invariant-pieces : goal.invariant-pieces
invariant-pieces l = record {
  below : l.filled.free ≤ 4096;
  counted : (sizes : List ℕ) → counted l.filled.pages l.filled.free (map piece_size (cut (3 - l.counter) 0 l.left) ++ sizes) ≡ counted l.initial.filled.pages l.initial.filled.free (map piece_size (cut 3 0 l.initial.left) ++ sizes);
}
