use Rattle.std.proofs.Common.{ℕ, List, refl, sym, ap, subst, ◌∙◌}
use Rattle.device_blocks.specs.disk_model.declared.block.Block.{Block}
use Rattle.device_blocks.specs.log_area.Areas.{LogAreaOf}
use Rattle.txn_laws.specs.block_pool.Numbers.{number_after}
use Rattle.txn_laws.specs.block_pool.Pools.{IsNextFrom}
use Rattle.txn_laws.specs.txn_model.declared.mark.Mark.{Mark}
use Rattle.txn_laws.specs.txn_model.Calls.{is_ready}
use Rattle.txn_state.specs.States.{facts_of}
use Rattle.txn_core.specs.Tells.{is_durable}
use Rattle.txn_core.proofs.Walking.{ready_held, held_ready, changed_isnt, found_lowest, passed_over}
use Rattle.txn_core.proofs.telling.lowest_after.Goals as goal

pub returns-then-not-is_changed : goal.returns-then-not-is_changed
returns-then-not-is_changed c =
    let f = facts_of c.args.state.now in
    let test = is_durable f.durable f.log.synced in
    let pages = c.durable_pages.ensures.value ∙ ap (λ (a : LogAreaOf). a.synced) c.log.ensures in
    let next : IsNextFrom test c.args.state.now.marks (number_after c.loop-block.behind) c.in-Some.block =
    subst (λ (es : List (Block × Mark)). IsNextFrom test es (number_after c.loop-block.behind) c.in-Some.block) c.marks.ensures
    (subst (λ (n : ℕ). IsNextFrom (is_durable n f.log.synced) c.marks.result.now (number_after c.loop-block.behind) c.in-Some.block) c.durable.ensures
    (subst (λ (n : ℕ). IsNextFrom (is_durable c.durable.result n) c.marks.result.now (number_after c.loop-block.behind) c.in-Some.block) pages c.in-Some.ensures.next)) in
    found_lowest test (is_ready f) c.args.state.now.marks (number_after c.args.after) (number_after c.loop-block.behind) (λ x isnt. ready_held f c.args.state.now.marks x refl isnt) c.loop-block.invariant c.in-Some.block next
    (held_ready f c.args.state.now.marks c.in-Some.block refl next.passed (sym c.is_changed.ensures ∙ c.if-not-is_changed.true))

pub loop-block-preserved : goal.loop-block-preserved
loop-block-preserved c =
    let f = facts_of c.args.state.now in
    let test = is_durable f.durable f.log.synced in
    let pages = c.durable_pages.ensures.value ∙ ap (λ (a : LogAreaOf). a.synced) c.log.ensures in
    let next : IsNextFrom test c.args.state.now.marks (number_after c.loop-block.behind) c.in-Some.block =
    subst (λ (es : List (Block × Mark)). IsNextFrom test es (number_after c.loop-block.behind) c.in-Some.block) c.marks.ensures
    (subst (λ (n : ℕ). IsNextFrom (is_durable n f.log.synced) c.marks.result.now (number_after c.loop-block.behind) c.in-Some.block) c.durable.ensures
    (subst (λ (n : ℕ). IsNextFrom (is_durable c.durable.result n) c.marks.result.now (number_after c.loop-block.behind) c.in-Some.block) pages c.in-Some.ensures.next)) in
    passed_over test (is_ready f) c.args.state.now.marks (number_after c.args.after) (number_after c.loop-block.behind) (λ x isnt. ready_held f c.args.state.now.marks x refl isnt) c.loop-block.invariant c.in-Some.block next
    (changed_isnt f c.args.state.now.marks c.in-Some.block refl (sym c.is_changed.ensures ∙ c.if-not-is_changed.false))
