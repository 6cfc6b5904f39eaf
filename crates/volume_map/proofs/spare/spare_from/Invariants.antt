use Rattle.std.proofs.Common.{◌≡◌, ◌-◌, ◌≤◌, length}
use Rattle.std.specs.List.{range_with_len, filter_map}
use Rattle.volume_map.specs.Heads.{spare_of}
use Rattle.volume_map.proofs.spare.spare_from.Given as goal

abbrev pub invariant-loop-number : goal.invariant-loop-number
invariant-loop-number l = record {
  from : 24 ≤ l.number;
  within : l.number - 24 ≤ length l.heads - 24;
  found : l.spare ≡ filter_map (spare_of l.heads l.bits) (range_with_len 24 (l.number - 24));
}
