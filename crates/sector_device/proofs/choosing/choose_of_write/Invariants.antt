use Rattle.std.proofs.Common.{ℕ, ◌+◌, List, [], ◌∷◌}
use Rattle.sector_device.specs.Sectors.{sectors_of}
use Rattle.sector_device.specs.Disks.{Disk}
use Rattle.sector_device.specs.Kept.{write_call}
use Rattle.sector_device.specs.Left.{IsFair}
use Rattle.sector_device.specs.declared.memory.KeptCall.{KeptCall}
use Rattle.sector_device.proofs.choosing.choose_of_write.Given as goal

abbrev pub invariant-loop-j : goal.invariant-loop-j
invariant-loop-j l = record {
  fair : (disk : Disk) (at : ℕ) (calls : List KeptCall) → IsFair disk (sectors_of l.initial.image) l.initial.decided 0 [] (write_call at l.first l.old ∷ calls) → IsFair disk (sectors_of l.image) l.decided (l.first + l.j) calls (write_call at l.first l.old ∷ calls);
}
