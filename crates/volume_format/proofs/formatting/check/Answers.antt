use Rattle.std.proofs.Common.{subst, sym, arith}
use Rattle.volume_format.specs.Layouts.{IsLayout}
use Rattle.volume_format.proofs.Placing.{layout_fits}
use Rattle.volume_format.proofs.formatting.check.Goals as goal

pub room-requires : goal.room-requires
room-requires c = subst IsLayout (sym c.layout_of.ensures) (layout_fits c.args.device (omega (arith, c.clusters_of-clusters.ensures)) (omega arith))

pub returns-clause-layout : goal.returns-clause-layout
returns-clause-layout c = layout_fits c.args.device (omega (arith, c.clusters_of-clusters.ensures)) (omega arith)
