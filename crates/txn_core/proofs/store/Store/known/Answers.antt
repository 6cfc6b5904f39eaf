use Rattle.std.proofs.Common.{subst}
use Rattle.txn_core.specs.Kept.{IsKept}
use Rattle.txn_core.specs.Seen.{Seen}
use Rattle.txn_state.specs.States.{facts_of}
use Rattle.txn_core.proofs.store.Store.known.Goals as goal

pub returns : goal.returns
returns g c = subst (λ (s : Seen _). IsKept (facts_of s.state)) c.self.view_is c.self.invariant.0.kept
