use Rattle.std.proofs.Common.{◌≡◌, drop}
use Rattle.log_reading.specs.LogPages.{sector_in}
use Rattle.log_area.proofs.places.sector_in.Given as goal

-- the sector is the one with what is left of the number, by the runs that are left
abbrev pub invariant-loop-run : goal.invariant-loop-run
invariant-loop-run l = sector_in (drop l.run-index l.runs) l.left ≡ sector_in l.runs l.n
