use Rattle.std.proofs.Common.{ℕ, ◌+◌, List, ap, sym, subst, ◌∙◌}
use Rattle.device_blocks.specs.disk_model.declared.block.Block.{Block}
use Rattle.txn_laws.specs.block_pool.Numbers.{block_number, number_after}
use Rattle.txn_laws.specs.block_pool.Pools.{IsNextFrom, NoneFrom}
use Rattle.txn_laws.specs.txn_model.declared.mark.Mark.{Mark}
use Rattle.txn_laws.specs.txn_model.Told.{is_left}
use Rattle.txn_state.specs.States.{facts_of}
use Rattle.txn_core.proofs.Walking.{LeftBelow, left_held, held_left, one_more, all_counted}
use Rattle.txn_core.proofs.telling.count_left.Goals as goal

pub loop-block-preserved : goal.loop-block-preserved
loop-block-preserved c =
    let mark = (facts_of c.args.state.now).mark in
    let next = subst (λ (es : List (Block × Mark)). IsNextFrom is_left es (number_after c.loop-block.behind) c.in-Some.block) c.marks.ensures c.in-Some.ensures.next in
    subst (λ (n : ℕ). LeftBelow mark (block_number c.in-Some.block + 1) n) (sym c.saturating_add-left.ensures)
    (one_more mark c.args.state.now.marks (number_after c.loop-block.behind) c.loop-block.left c.in-Some.block (left_held c.args.state.now.marks) next c.loop-block.invariant
    (held_left c.args.state.now.marks c.in-Some.block next.passed))

pub returns : goal.returns
returns c =
    all_counted (facts_of c.args.state.now).mark c.args.state.now.marks (number_after c.loop-block.behind) c.loop-block.left (left_held c.args.state.now.marks)
    (subst (λ (es : List (Block × Mark)). NoneFrom is_left es (number_after c.loop-block.behind)) c.marks.ensures c.in_default.ensures.none) c.loop-block.invariant
