use Rattle.std.proofs.Common.{◌≡◌, ◌-◌, ◌+◌, ℕ, arith, refl, ap, ◌∙◌, List, ◌++◌, ◌∷◌, []}
use Rattle.index_model.proofs.host_base.Known.{always}
use Rattle.std.proofs.lemmas.Result.{err_from_is_err_and}
use Rattle.index_model.specs.Walks.{root_vcn}
use Rattle.index_plan.specs.Plans.{Spot}
use Rattle.index_plan.specs.Lists.{entry_at}
use Rattle.index_plan.specs.Reading.{way_down, way_of, with_front}
use Rattle.index_plan.proofs.Ways.{front_all, more_known, err_known, low_known}
use Rattle.index_plan.proofs.Fitting.{spots_nil, spots_more, more_length, nil_length}
use Rattle.index_plan.proofs.descent.way.Goals as goal

pub loop-level-init : goal.loop-level-init
loop-level-init g c = record {
  way = let goes = g.T.Test.goes c.args.test.now in
      always (g.N.Nodes.reads c.args.nodes.now) (λ reads. with_front c.new-path.result.items (way_down reads goes 15 root_vcn c.down_at-down.result) ≡ way_of reads goes c.args.root.now)
      (λ reads. ap (λ (l : List Spot). with_front l (way_down reads goes 15 root_vcn c.down_at-down.result)) c.new-path.ensures.items
      ∙ front_all (way_down reads goes 15 root_vcn c.down_at-down.result)
      ∙ ap (way_down reads goes 15 root_vcn) (c.down_at-down.ensures ∙ ap (λ (i : ℕ). (entry_at i c.args.root.now).down) c.stop.ensures.value));
  sized = spots_nil c.new-path.result.items c.new-path.ensures.items;
  few = nil_length c.new-path.result.items 0 c.new-path.ensures.items;
  unchanged = refl;
  counted = refl;
}

pub loop-level-preserved : goal.loop-level-preserved
loop-level-preserved g c = record {
  way = more_known (g.N.Nodes.reads c.args.nodes.now) (g.N.Nodes.reads c.loop-level.nodes) (g.T.Test.goes c.args.test.now) c.args.root.now (15 - c.loop-level.level) (15 - (c.loop-level.level + 1)) c.loop-level.above c.in-Some.vcn c.stop-at.result c.in_ok-node.node c.loop-level.path.items _ c.loop-level.down _
      c.loop-level.invariant.unchanged (omega arith) c.in-Some.is c.in_ok-node.ensures.node c.stop-at.ensures.value c.down_at-down-in-loop-level.ensures
      (c.in_ok-push.ensures.pushed ∙ ap (λ (s : Spot). c.loop-level.path.items ++ s ∷ []) c.new.ensures) c.loop-level.invariant.way;
  sized = spots_more c.loop-level.path.items _ c.new.result c.in_ok-push.ensures.pushed c.loop-level.invariant.sized (rw c.new.ensures c.in_ok-node.ensures.sized);
  few = more_length c.loop-level.path.items _ c.new.result c.loop-level.level c.in_ok-push.ensures.pushed c.loop-level.invariant.few;
  unchanged = c.in_ok-node.ensures.unchanged ∙ c.loop-level.invariant.unchanged;
  counted = c.in_ok-node.ensures.cause.counted ∙ c.loop-level.invariant.counted;
}

pub returns-in_err-node-clause-way : goal.returns-in_err-node-clause-way
returns-in_err-node-clause-way g c =
    let p = err_from_is_err_and c.from_residual.result c.from_residual.ensures.1 in
    rw (p.1, p.2) (err_known (g.N.Nodes.reads c.args.nodes.now) (g.N.Nodes.reads c.loop-level.nodes) (g.T.Test.goes c.args.test.now) c.args.root.now (15 - c.loop-level.level) (14 - c.loop-level.level) c.loop-level.above c.in-Some.vcn c.loop-level.path.items c.loop-level.down c.in_err-node.field-0.0
    c.loop-level.invariant.unchanged (omega arith) c.in-Some.is c.in_err-node.ensures.node c.loop-level.invariant.way)

pub returns-in-Some-down-clause-way : goal.returns-in-Some-down-clause-way
returns-in-Some-down-clause-way g c = low_known (g.N.Nodes.reads c.args.nodes.now) (g.T.Test.goes c.args.test.now) c.args.root.now (15 - c.loop-level.level) c.loop-level.above c.in-Some-down.field-0 c.loop-level.path.items c.loop-level.down (omega arith) c.in-Some-down.is c.loop-level.invariant.way
