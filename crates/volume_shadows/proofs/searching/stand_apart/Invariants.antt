use Rattle.std.proofs.Common.{◌≡◌, ◌<◌, ◌^◌, drop}
use Rattle.volume_shadows.specs.Tries.{stand_apart}
use Rattle.volume_shadows.proofs.searching.stand_apart.Given as goal

-- all runs stand in order where those that are left do, behind the end so far
abbrev pub invariant-loop-run : goal.invariant-loop-run
invariant-loop-run l = record {
  rest : stand_apart l.end (drop l.run-index l.runs) ≡ stand_apart 0 l.runs;
  small : l.end < 2 ^ 66;
}
