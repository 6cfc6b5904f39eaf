use Rattle.std.proofs.Common.{◌≡◌, drop}
use Rattle.index_plan.specs.Growth.{fits_in}
use Rattle.index_plan.proofs.node.fits_room.Given as goal

abbrev pub invariant-loop-entry : goal.invariant-loop-entry
invariant-loop-entry l = fits_in l.initial.left l.entries ≡ fits_in l.left (drop l.entry-index l.entries)
