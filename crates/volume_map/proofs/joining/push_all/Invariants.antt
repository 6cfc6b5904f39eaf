use Rattle.std.proofs.Common.{◌≡◌, ◌++◌, take}
use Rattle.volume_map.proofs.joining.push_all.Given as goal

abbrev pub invariant-loop-attr : goal.invariant-loop-attr
invariant-loop-attr l = l.file ≡ record { head = l.initial.file.head; attrs = l.initial.file.attrs ++ take l.attr-index l.attrs }
