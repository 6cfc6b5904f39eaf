use Rattle.std.proofs.Common.{◌≡◌, ◌++◌, drop}
use Rattle.txn_mount.specs.Puts.{may_put, keys_where}
use Rattle.txn_mount.proofs.keys.some_keys.Given as goal

-- the keys so far, and those of the bodies that are left
abbrev pub invariant-loop-place : goal.invariant-loop-place
invariant-loop-place l = l.keys.items ++ keys_where (may_put l.count) l.place (drop l.place l.bodies) ≡ keys_where (may_put l.count) 0 l.bodies
