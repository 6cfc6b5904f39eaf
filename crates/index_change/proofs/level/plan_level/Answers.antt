use Rattle.std.proofs.Common.{◌≤◌, ◌<◌, ◌∙◌, arith}
use Rattle.index_tree.specs.Places.{place_of}
use Rattle.index_change.proofs.Insertions.{judged_known}
use Rattle.index_change.proofs.Raising.{level_known, deep_known}
use Rattle.index_change.proofs.level.plan_level.Goals as goal

pub returns-then-height-ge-MOST_LEVELS-clause-value : goal.returns-then-height-ge-MOST_LEVELS-clause-value
returns-then-height-ge-MOST_LEVELS-clause-value g c =
    let d = c.args.dir.now in
    let root = c.in_ok-root.root in
    let height = c.in_ok-height.height in
    let high : 16 ≤ height = omega arith in
    deep_known (place_of d) c.args.up.now d.root d.used c.args.fresh root _ _ height (c.in_ok-height.ensures.same ∙ c.in_ok-walk.ensures.same) c.in_ok-root.ensures (c.can_go_down.ensures.0 c.if-not-can_go_down.false) high
    (judged_known _ _ (place_of d) root c.as_slice.result.now height c.in_ok-height.ensures.same c.as_slice.ensures c.in_ok-height.ensures.value)

pub returns-clause-value : goal.returns-clause-value
returns-clause-value g c =
    let d = c.args.dir.now in
    let root = c.in_ok-root.root in
    let height = c.in_ok-height.height in
    let low : height < 16 = omega arith in
    level_known (place_of d) c.args.up.now d.root d.used c.args.fresh root _ _ _ _ height (c.in_ok-height.ensures.same ∙ c.in_ok-walk.ensures.same) (g.met.V.View.sized c.args.v.now) c.in_ok-root.ensures (c.can_go_down.ensures.0 c.if-not-can_go_down.false) low
    (judged_known _ _ (place_of d) root c.as_slice.result.now height c.in_ok-height.ensures.same c.as_slice.ensures c.in_ok-height.ensures.value) c.in_ok-nodes.ensures c.in_ok-lay_out.ensures.laid
