use Rattle.std.proofs.Common.{◌≡◌, ◌*◌, length}
use Rattle.volume_format.specs.Files.{table_bytes}
use Rattle.volume_format.proofs.records.table_bytes.Given as goal

abbrev pub invariant-loop-number : goal.invariant-loop-number
invariant-loop-number l = record {
  value : l.table.items ≡ table_bytes l.v l.time l.number;
  size : length l.table.items ≡ 1024 * l.number;
}
