use Rattle.std.proofs.Common.{ap, subst, sym, ◌∙◌, ◌<◌, ℕ}
use Rattle.txn_log.specs.disk_model.declared.block.Block.{Block}
use Rattle.txn_log.specs.store_pools.Pools.{marks_of}
use Rattle.txn_log.specs.txn_model.declared.mark.Mark.{Mark}
use Rattle.txn_log.specs.txn_model.Calls.{rivals_of}
use Rattle.txn_state.proofs.Turning.{any_step, any_found}
use Rattle.txn_state.proofs.rivals.owes_rival.Goals as goal

pub returns-then-mark_of : goal.returns-then-mark_of
returns-then-mark_of c =
    sym (any_found (λ (b : Block). (marks_of c.args.marks.now b).owed) (rivals_of c.args.block) c.loop-k.k c.rival.result c.args.block (subst (λ (n : ℕ). c.loop-k.k < n) c.rival_count-k-end.ensures c.loop-k-test.true) (c.rival.ensures c.args.block)
    (sym (ap (λ (m : Mark). m.owed) c.mark_of.ensures) ∙ c.if-mark_of.true))
    ∙ c.loop-k.invariant

pub loop-k-preserved : goal.loop-k-preserved
loop-k-preserved c =
    any_step (λ (b : Block). (marks_of c.args.marks.now b).owed) (rivals_of c.args.block) c.loop-k.k c.rival.result c.args.block (subst (λ (n : ℕ). c.loop-k.k < n) c.rival_count-k-end.ensures c.loop-k-test.true) (c.rival.ensures c.args.block)
    (sym (ap (λ (m : Mark). m.owed) c.mark_of.ensures) ∙ c.if-mark_of.false)
    ∙ c.loop-k.invariant
