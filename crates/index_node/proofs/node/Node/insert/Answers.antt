use Rattle.std.proofs.Common.{◌+◌, ◌≤◌, sym, ap, ◌∙◌, arith}
use Rattle.record_model.specs.Nodes.{Node, entry_length, node_used}
use Rattle.index_node.specs.Edits.{inserted}
use Rattle.index_node.proofs.Sizes.{inserted_ok, inserted_bounded}
use Rattle.index_node.proofs.node.Node.insert.Goals as goal

pub invariant_of-self-2 : goal.invariant_of-self-2
invariant_of-self-2 c =
    let fits : node_used c.self.inside.entries + entry_length c.args.entry.now ≤ 4072 = omega (arith, c.if-used-gt-ROOM.false, c.node_used.ensures, ap node_used c.as_slice.ensures, c.named_length.ensures.value) in
    inserted_bounded c.self.inside.entries c.insert.new.self c.args.at c.args.entry.now c.in_ok-copy.copy fits c.in_ok-copy.ensures c.in_ok-insert.ensures.ok

pub returns-clause-value : goal.returns-clause-value
returns-clause-value c =
    let fits : node_used c.self.inside.entries + entry_length c.args.entry.now ≤ 4072 = omega (arith, c.if-used-gt-ROOM.false, c.node_used.ensures, ap node_used c.as_slice.ensures, c.named_length.ensures.value) in
    let n : Node = record { vcn = c.self.inside.vcn; lsn = c.self.inside.lsn; entries = c.self.inside.entries } in
    ap (λ (m : Node). inserted m c.args.at c.args.entry.now) (sym c.self.view_is) ∙ inserted_ok n c.args.at c.args.entry.now c.in_ok-copy.copy c.insert.new.self fits c.in_ok-copy.ensures c.in_ok-insert.ensures.ok
