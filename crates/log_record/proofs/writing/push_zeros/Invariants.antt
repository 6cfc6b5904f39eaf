use Rattle.std.proofs.Common.{◌≡◌, ◌++◌}
use Rattle.disk_model.specs.Bytes.{zeros}
use Rattle.log_record.proofs.writing.push_zeros.Given as goal

abbrev pub invariant-loop : goal.invariant-loop
invariant-loop l = l.out.items ≡ l.initial.out.items ++ zeros l.counter
