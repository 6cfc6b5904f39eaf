use Rattle.std.proofs.Common.{◌≡◌, ◌<◌, ◌^◌, drop, max}
use Rattle.volume_model.specs.Indexes.{runs_end}
use Rattle.index_tree.proofs.blocks.runs_end.Given as goal

-- the end so far, or that of the runs that are left, is that of all
abbrev pub invariant-loop-run : goal.invariant-loop-run
invariant-loop-run l = record {
  end : max l.end (runs_end (drop l.run-index l.runs)) ≡ runs_end l.runs;
  small : l.end < 2 ^ 66;
}
