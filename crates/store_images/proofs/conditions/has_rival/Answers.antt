use Rattle.std.proofs.Common.{subst, sym, ◌∙◌, ◌<◌, ℕ}
use Rattle.std.specs.Prelude.{is_some}
use Rattle.disk_model.specs.declared.block.Block.{Block}
use Rattle.txn_core.specs.txn_model.Calls.{rivals_of}
use Rattle.txn_core.specs.txn_state.States.{facts_of}
use Rattle.txn_core.proofs.txn_state.Turning.{any_step, any_found}
use Rattle.store_images.proofs.conditions.has_rival.Goals as goal

pub returns-then-is_changed : goal.returns-then-is_changed
returns-then-is_changed c =
    sym (any_found (λ (b : Block). is_some ((facts_of c.args.state.now).before b)) (rivals_of c.args.block) c.loop-k.k c.rival.result c.args.block (subst (λ (n : ℕ). c.loop-k.k < n) c.rival_count-k-end.ensures c.loop-k-test.true) (c.rival.ensures c.args.block)
    (sym c.is_changed.ensures ∙ c.if-is_changed.true))
    ∙ c.loop-k.invariant

pub loop-k-preserved : goal.loop-k-preserved
loop-k-preserved c =
    any_step (λ (b : Block). is_some ((facts_of c.args.state.now).before b)) (rivals_of c.args.block) c.loop-k.k c.rival.result c.args.block (subst (λ (n : ℕ). c.loop-k.k < n) c.rival_count-k-end.ensures c.loop-k-test.true) (c.rival.ensures c.args.block)
    (sym c.is_changed.ensures ∙ c.if-is_changed.false)
    ∙ c.loop-k.invariant
