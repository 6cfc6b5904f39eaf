use Rattle.std.proofs.Common.{sym, subst}
use Rattle.record_model.specs.Nodes.{FitsNode}
use Rattle.index_node.proofs.RootSpelled.{each_block}
use Rattle.place_raises.proofs.level.node_bytes.Goals as goal

pub write-requires-clause-fits : goal.write-requires-clause-fits
write-requires-clause-fits c = subst FitsNode (sym c.new.ensures) (each_block c.args.vcn c.args.entries c.ranges.vcn.fits c.requires)
