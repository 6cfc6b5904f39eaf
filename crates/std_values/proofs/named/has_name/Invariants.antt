use Rattle.std.proofs.Common.{◌≡◌, ℕ, ◌+◌, ◌*◌, ◌<◌, false}
use Rattle.record_model.specs.disk_model.Numbers.{field}
use Rattle.record_model.specs.utf16_name.Names.{is_bad_unit}
use Rattle.std_values.proofs.named.has_name.Given as goal

abbrev pub invariant-loop-i : goal.invariant-loop-i
invariant-loop-i l = (k : ℕ) → k < l.i → is_bad_unit (field (0x42 + 2 * k) 2 l.value) ≡ false
