use Rattle.std.proofs.Common.{refl}
use Rattle.space_model.specs.Choosing.{chosen}
use Rattle.plan_space.proofs.Stepping.{takes_none_yet}
use Rattle.plan_space.proofs.choosing.choose.Goals as goal

pub returns-then-room-wanted-clause-first : goal.returns-then-room-wanted-clause-first
returns-then-room-wanted-clause-first g c = takes_none_yet (chosen (g.B.FreeBits.bits c.args.bits.now) c.args.last c.args.wanted) (g.B.FreeBits.bits c.args.bits.now) (g.B.FreeBits.bits c.args.bits.now) refl
