use Rattle.std.proofs.Common.{◌≡◌, ◌-◌}
use Rattle.index_plan.specs.Seeking.{chain_down}
use Rattle.index_plan.specs.Room.{EachNodeSized}
use Rattle.index_plan.proofs.Chaining.{ChainIs}
use Rattle.index_plan.proofs.search.chain.Given as goal

abbrev pub invariant-loop-level : goal.invariant-loop-level
invariant-loop-level g l = record {
  chain : ChainIs (g.N.Nodes.reads l.initial.nodes) (λ reads. chain_down reads l.levels l.fn.above l.fn.down) l.chain.items (l.levels - l.level) l.above l.down;
  sized : EachNodeSized l.chain.items;
  unchanged : g.N.Nodes.reads l.nodes ≡ g.N.Nodes.reads l.initial.nodes;
  counted : g.N.Nodes.faults l.nodes ≡ g.N.Nodes.faults l.initial.nodes;
}
