use Rattle.txn_core.proofs.Keeping.{stands_ends}
use Rattle.txn_core.proofs.store.Store.closing.Goals as goal

pub invariant_of-result : goal.invariant_of-result
invariant_of-result g c = (stands_ends _ _ _ _ c.self.invariant.0, c.self.invariant.1.front)
