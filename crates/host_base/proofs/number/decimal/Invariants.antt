use Rattle.std.proofs.Common.{◌≡◌, ◌<◌, ◌^◌, drop}
use Rattle.host_base.specs.Numbers.{decimal_behind}
use Rattle.host_base.proofs.number.decimal.Given as goal

abbrev pub invariant-loop-digit : goal.invariant-loop-digit
invariant-loop-digit l = record {
  below : l.number < 2 ^ 62;
  read : decimal_behind l.number (drop l.digit-index l.digits) ≡ decimal_behind 0 l.digits;
}
