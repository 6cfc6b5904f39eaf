use Rattle.std.proofs.Common.{◌≡◌, ◌++◌, drop}
use Rattle.std.specs.Prelude.{map}
use Rattle.log_recovery.specs.Own.{stretch_at}
use Rattle.log_recovery.proofs.own.push_blocks.Given as goal

-- what was gathered, and what is to be gathered of the blocks that are left
abbrev pub invariant-loop-block : goal.invariant-loop-block
invariant-loop-block l = l.stretches.items ++ map stretch_at (drop l.block-index l.blocks) ≡ l.initial.stretches.items ++ map stretch_at l.blocks
