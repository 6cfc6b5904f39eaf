use Rattle.std.proofs.Common.{◌-◌, ◌+◌, ◌∙◌, arith}
use Rattle.std.proofs.lemmas.Result.{err_from_is_err_and}
use Rattle.index_plan.specs.Seeking.{chain_down}
use Rattle.index_plan.proofs.Chaining.{chain_more, chain_err}
use Rattle.index_plan.proofs.Fitting.{nodes_more}
use Rattle.index_plan.proofs.search.chain.Goals as goal

pub loop-level-preserved : goal.loop-level-preserved
loop-level-preserved g c = record {
  chain = chain_more (g.N.Nodes.reads c.args.nodes.now) (g.N.Nodes.reads c.loop-level.nodes) (λ reads. chain_down reads c.args.levels c.args.above c.args.down) (c.args.levels - c.loop-level.level) (c.args.levels - (c.loop-level.level + 1)) c.loop-level.above c.in-Some.vcn c.in_ok-entries.entries c.loop-level.chain.items _ c.loop-level.down _
      c.loop-level.invariant.unchanged (omega arith) c.in-Some.is c.in_ok-entries.ensures.node c.last_down-down.ensures c.in_ok-push.ensures.pushed c.loop-level.invariant.chain;
  sized = nodes_more c.loop-level.chain.items _ _ c.in_ok-push.ensures.pushed c.loop-level.invariant.sized c.in_ok-entries.ensures.sized;
  unchanged = c.in_ok-entries.ensures.unchanged ∙ c.loop-level.invariant.unchanged;
  counted = c.in_ok-entries.ensures.cause.counted ∙ c.loop-level.invariant.counted;
}

pub returns-in_err-entries-clause-chain : goal.returns-in_err-entries-clause-chain
returns-in_err-entries-clause-chain g c =
    let p = err_from_is_err_and c.from_residual.result c.from_residual.ensures.1 in
    rw (p.1, p.2) (chain_err (g.N.Nodes.reads c.args.nodes.now) (g.N.Nodes.reads c.loop-level.nodes) (λ reads. chain_down reads c.args.levels c.args.above c.args.down) (c.args.levels - c.loop-level.level) (c.args.levels - c.loop-level.level - 1) c.loop-level.above c.in-Some.vcn c.loop-level.chain.items c.loop-level.down c.in_err-entries.field-0.0
    c.loop-level.invariant.unchanged (omega arith) c.in-Some.is c.in_err-entries.ensures.node c.loop-level.invariant.chain)
