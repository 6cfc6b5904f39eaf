use Rattle.std.proofs.Common.{◌≡◌, ℕ, ◌+◌, ◌*◌, ◌<◌, false}
use Rattle.disk_model.specs.Numbers.{field}
use Rattle.utf16_name.specs.Names.{is_bad_unit}
use Rattle.usn_record.proofs.judging.has_name.Given as goal

abbrev pub invariant-loop-i : goal.invariant-loop-i
invariant-loop-i l = (k : ℕ) → k < l.i → is_bad_unit (field (0x3C + 2 * k) 2 l.own) ≡ false
