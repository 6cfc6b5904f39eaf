use Rattle.std.proofs.Common.{◌≡◌, take}
use Rattle.volume_format.proofs.naming.units.Given as goal

abbrev pub invariant-loop-letter : goal.invariant-loop-letter
invariant-loop-letter l = l.units.items ≡ take l.letter-index l.letters
