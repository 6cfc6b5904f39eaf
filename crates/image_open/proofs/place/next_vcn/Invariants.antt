use Rattle.std.proofs.Common.{ℕ, ◌<◌, ◌≤◌, get_or}
use Rattle.state_model.specs.record_model.declared.runs.Run.{Run}
use Rattle.image_open.specs.LogPlaces.{IsHeldAlike}
use Rattle.image_open.proofs.place.next_vcn.Given as goal

-- the runs so far hold the VCNs up to the next one alike
abbrev pub invariant-loop-run : goal.invariant-loop-run
invariant-loop-run l = record {
  above : l.v < l.next;
  below : l.next ≤ l.end;
  alike : (k : ℕ) (d : Run) → k < l.run-index → IsHeldAlike l.v l.next (get_or l.runs k d);
}
