use Rattle.std.proofs.Common.{◌≡◌, ◌-◌, ◌≤◌, length}
use Rattle.std.specs.Prelude.{IfSome}
use Rattle.index_plan.specs.Reading.{way_down, way_of, with_front}
use Rattle.index_plan.specs.Room.{EachSpotSized}
use Rattle.index_plan.proofs.descent.way.Given as goal

abbrev pub invariant-loop-level : goal.invariant-loop-level
invariant-loop-level g l = record {
  way : IfSome (g.N.Nodes.reads l.initial.nodes) (λ reads. with_front l.path.items (way_down reads (g.T.Test.goes l.test) (15 - l.level) l.above l.down) ≡ way_of reads (g.T.Test.goes l.test) l.fn.root);
  sized : EachSpotSized l.path.items;
  few : length l.path.items ≤ l.level;
  unchanged : g.N.Nodes.reads l.nodes ≡ g.N.Nodes.reads l.initial.nodes;
  counted : g.N.Nodes.faults l.nodes ≡ g.N.Nodes.faults l.initial.nodes;
}
