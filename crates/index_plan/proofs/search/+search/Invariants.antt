use Rattle.std.proofs.Common.{◌≡◌, ◌+◌, ◌*◌}
use Rattle.index_plan.proofs.Looking.{SeekIs}
use Rattle.index_plan.proofs.search.+search.Given as goal

abbrev pub decreases-seek_down : goal.decreases-seek_down
decreases-seek_down g l = 3 * l.levels

abbrev pub decreases-look_at : goal.decreases-look_at
decreases-look_at g l = 3 * l.levels + 1

abbrev pub decreases-seek_in : goal.decreases-seek_in
decreases-seek_in g l = 3 * l.levels + 2

abbrev pub invariant-seek_in-loop-at : goal.invariant-seek_in-loop-at
invariant-seek_in-loop-at g l = record {
  sought : SeekIs (g.N.Nodes.reads l.initial.nodes) (g.T.Target.side l.target) l.levels l.vcn l.node l.at;
  unchanged : g.N.Nodes.reads l.nodes ≡ g.N.Nodes.reads l.initial.nodes;
  counted : g.N.Nodes.faults l.nodes ≡ g.N.Nodes.faults l.initial.nodes;
}
