use Rattle.std.proofs.Common.{Some, ap, ◌∙◌, subst, arith}
use Rattle.std.specs.Prelude.{length}
use Rattle.volume_model.specs.Volumes.{size_or}
use Rattle.directory_growth.specs.Growing.{LieBelow}
use Rattle.directory_growth.proofs.growing.blocks_after.Goals as goal

pub both_after-requires-clause-lies : goal.both_after-requires-clause-lies
both_after-requires-clause-lies g c = subst (LieBelow (length (g.B.FreeBits.bits c.args.bits.now))) (c.requires.blocks ∙ ap Some c.in-Placed.is) c.requires.has.placed

pub both_after-requires-clause-real : goal.both_after-requires-clause-real
both_after-requires-clause-real g c = (let high = c.requires.little.real in let same = ap size_or (c.requires.blocks ∙ ap Some c.in-Placed.is) in omega (arith, high, same))
