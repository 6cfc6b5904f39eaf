use Rattle.std.proofs.Common.{refl}
use Rattle.index_change.proofs.Joining.{gone_made}
use Rattle.index_change.proofs.finishing.finish.Goals as goal

pub returns-clause-made : goal.returns-clause-made
returns-clause-made g c = gone_made _ _ _ _ _ _ _ _ c.in_ok-nodes.ensures.drawn c.in_ok-root.ensures.laid refl refl refl refl
