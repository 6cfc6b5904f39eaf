use Rattle.std.proofs.Common.{sym, ◌∙◌}
use Rattle.txn_core.specs.txn_state.States.{facts_of}
use Rattle.store_images.proofs.Beside.{alone_by, denied}
use Rattle.store_images.proofs.conditions.is_alone.Goals as goal

pub returns : goal.returns
returns c = λ alone. alone_by (facts_of c.args.state.now) c.args.block c.known.ensures c.requires (sym c.has_rival.ensures ∙ denied c.has_rival.result alone)
