use Rattle.std.proofs.Common.{take}
use Rattle.std.specs.Prelude.{All}
use Rattle.used_laws.specs.Laws.{HasBytes}
use Rattle.data_plan.proofs.resizing.have_bytes.Given as goal

-- those so far
abbrev pub invariant-loop-attr : goal.invariant-loop-attr
invariant-loop-attr l = All HasBytes (take l.attr-index l.attrs)
