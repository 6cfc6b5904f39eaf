use Rattle.std.proofs.Common.{◌≡◌, ◌++◌, take}
use Rattle.record_writer.proofs.copying.push_copies.Given as goal

abbrev pub invariant-loop-attr : goal.invariant-loop-attr
invariant-loop-attr l = l.to ≡ record { head = l.initial.to.head; attrs = l.initial.to.attrs ++ take l.attr-index l.attrs }
