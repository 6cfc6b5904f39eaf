use Rattle.std.proofs.Common.{◌≡◌, take}
use Rattle.std.specs.Prelude.{string_bytes}
use Rattle.utf16_name.specs.Texts.{name_text}
use Rattle.utf16_name.proofs.text.shown.Given as goal

abbrev pub invariant-loop-unit : goal.invariant-loop-unit
invariant-loop-unit l = string_bytes l.text ≡ name_text (take l.unit-index l.units)
