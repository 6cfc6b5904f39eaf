use Rattle.std.proofs.Common.{subst}
use Rattle.txn_core.specs.Seen.{Seen}
use Rattle.txn_core.specs.Tells.{LeavesOpen}
use Rattle.txn_core.proofs.store.Store.leaves_open.Goals as goal

pub returns : goal.returns
returns g c = subst (λ (s : Seen _). LeavesOpen s.state.log) c.self.view_is c.self.invariant.1.unmarked
