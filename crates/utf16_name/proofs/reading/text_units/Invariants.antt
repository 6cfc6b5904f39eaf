use Rattle.std.proofs.Common.{◌≡◌, ◌≤◌, length}
use Rattle.std.specs.Str.{chars, IsUtf8}
use Rattle.utf16_name.specs.Reading.{with_front, units_in}
use Rattle.utf16_name.proofs.reading.text_units.Given as goal

abbrev pub decreases-loop-rest : goal.decreases-loop-rest
decreases-loop-rest l = length l.rest

abbrev pub invariant-loop-rest : goal.invariant-loop-rest
invariant-loop-rest l = record {
  read : with_front l.units.items (units_in (length (chars l.rest)) (chars l.rest)) ≡ units_in (length (chars l.text)) (chars l.text);
  utf8 : IsUtf8 l.rest;
  within : length l.rest ≤ length l.text;
}
