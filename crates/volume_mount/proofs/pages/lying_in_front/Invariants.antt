use Rattle.std.proofs.Common.{◌≤◌, drop}
use Rattle.volume_mount.proofs.Fronting.{LieBefore, IsRest}
use Rattle.volume_mount.proofs.pages.lying_in_front.Given as goal

-- so many sectors lie on the device, and those from there on are those of the runs that are left
abbrev pub invariant-loop-run : goal.invariant-loop-run
invariant-loop-run l = record {
  few : l.count ≤ l.all;
  before : LieBefore l.device l.runs l.count;
  rest : IsRest l.runs (drop l.run-index l.runs) l.count;
}
