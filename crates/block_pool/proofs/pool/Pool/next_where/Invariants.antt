use Rattle.block_pool.proofs.Ranges.{IsLeft}
use Rattle.block_pool.proofs.pool.Pool.next_where.Given as goal

abbrev pub invariant-loop-found : goal.invariant-loop-found
invariant-loop-found g l = IsLeft (g.P.Tests.told l.test) l.initial.found-iterator l.found-iterator
