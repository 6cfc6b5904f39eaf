use Rattle.std.proofs.Common.{◌≡◌, drop}
use Rattle.std.specs.Prelude.{is_some}
use Rattle.std.specs.List.{list_any}
use Rattle.disk_model.specs.declared.block.Block.{Block}
use Rattle.txn_core.specs.txn_model.Calls.{rivals_of}
use Rattle.txn_core.specs.txn_state.States.{facts_of}
use Rattle.store_images.proofs.conditions.has_rival.Given as goal

-- what is told of the rivals that are left is told of all
abbrev pub invariant-loop-k : goal.invariant-loop-k
invariant-loop-k l = list_any (λ (c : Block). is_some ((facts_of l.state).before c)) (drop l.k (rivals_of l.block)) ≡ list_any (λ (c : Block). is_some ((facts_of l.state).before c)) (rivals_of l.block)
