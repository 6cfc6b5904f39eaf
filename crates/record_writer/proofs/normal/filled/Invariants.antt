use Rattle.std.proofs.Common.{◌≡◌, ◌++◌}
use Rattle.disk_model.specs.Bytes.{zeros}
use Rattle.record_writer.proofs.normal.filled.Given as goal

abbrev pub invariant-loop : goal.invariant-loop
invariant-loop l = l.bytes.items ≡ l.pairs ++ zeros l.counter
