use Rattle.std.proofs.Common.{subst}
use Rattle.txn_core.specs.Seen.{Seen}
use Rattle.txn_core.specs.Views.{KeepsSizes}
use Rattle.txn_core.proofs.PresentSizes.{keeps_sizes}
use Rattle.txn_core.proofs.store.Store.sized.Goals as goal

pub returns : goal.returns
returns g c = subst (λ (s : Seen _). KeepsSizes s.state) c.self.view_is (keeps_sizes c.self.inside.state c.known.ensures)
