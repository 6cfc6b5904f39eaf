use Rattle.std.proofs.Common.{◌≡◌, drop}
use Rattle.record_writer.specs.Fitting.{rise_from}
use Rattle.record_writer.proofs.spelled.rise_from_zero.Given as goal

abbrev pub invariant-loop-attr : goal.invariant-loop-attr
invariant-loop-attr l = rise_from l.least (drop l.attr-index l.attrs) ≡ rise_from 0 l.attrs
