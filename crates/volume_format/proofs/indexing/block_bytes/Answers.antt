use Rattle.std.proofs.Common.{List, sym, ap, ◌∙◌, subst, arith}
use Rattle.record_model.specs.declared.entry.Entry.{Entry}
use Rattle.record_model.specs.Nodes.{node_used, FitsNode}
use Rattle.volume_format.proofs.FittingNode.{node_fits}
use Rattle.volume_format.proofs.indexing.block_bytes.Goals as goal

pub new-node-requires : goal.new-node-requires
new-node-requires c =
    let fits = node_fits c.args.v c.requires c.args.time c.ranges.time.fits in
    omega (arith, fits.used, ap node_used c.in_ok-root_entries.ensures)

pub write_node-requires-clause-fits : goal.write_node-requires-clause-fits
write_node-requires-clause-fits c =
    subst FitsNode (sym (c.new-node.ensures ∙ ap (λ (l : List Entry). record { vcn = 0; lsn = 0; entries = l }) c.in_ok-root_entries.ensures)) (node_fits c.args.v c.requires c.args.time c.ranges.time.fits)
