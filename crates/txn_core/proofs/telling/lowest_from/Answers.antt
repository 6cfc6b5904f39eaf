use Rattle.std.proofs.Common.{Option, sym, subst, ◌∙◌}
use Rattle.device_blocks.specs.disk_model.declared.block.Block.{Block}
use Rattle.txn_laws.specs.txn_model.Calls.{is_ready}
use Rattle.txn_state.specs.States.{facts_of}
use Rattle.txn_core.specs.Tells.{StaysLowest}
use Rattle.txn_core.proofs.Walking.{goes_on}
use Rattle.txn_core.proofs.telling.lowest_from.Goals as goal

pub returns-else-is_ready : goal.returns-else-is_ready
returns-else-is_ready c = subst (λ (o : Option Block). StaysLowest (is_ready (facts_of c.args.state.now)) o c.lowest_after.result) (sym c.in-Some.is) (goes_on (is_ready (facts_of c.args.state.now)) c.in-Some.block c.lowest_after.result (sym c.is_ready.ensures ∙ c.if-is_ready.false) c.lowest_after.ensures)
