use Rattle.std.proofs.Common.{◌-◌, ◌<◌, ◌^◌, ℕ, List, All, length, sym, ap, ◌∙◌, subst, arith}
use Rattle.std.specs.List.{flat_map}
use Rattle.disk_model.specs.Bytes.{written}
use Rattle.record_model.specs.declared.entry.Entry.{Entry}
use Rattle.record_model.specs.Nodes.{Node, entries_length, entry_spelling, node_used, children_of, node_head, node_spelling, FitsNode}
use Rattle.index_node.proofs.Placing.{numbers_small, entries_short, node_put}
use Rattle.index_node.proofs.node.Node.write.Goals as goal

pub put_entries-end-requires-clause-numbers : goal.put_entries-end-requires-clause-numbers
put_entries-end-requires-clause-numbers c =
    let fits = subst FitsNode (sym c.self.view_is) c.requires.fits in
    subst (All (λ (e : Entry). e.child.number < 2 ^ 48)) (sym c.as_slice-entries.ensures) (numbers_small c.self.inside.entries fits.entries)

pub put_entries-end-requires-clause-short : goal.put_entries-end-requires-clause-short
put_entries-end-requires-clause-short c =
    let n : Node = record { vcn = c.self.inside.vcn; lsn = c.self.inside.lsn; entries = c.self.inside.entries } in
    omega (arith, entries_short n (subst FitsNode (sym c.self.view_is) c.requires.fits), ap entries_length c.as_slice-entries.ensures)

pub put_entries-end-requires-clause-room : goal.put_entries-end-requires-clause-room
put_entries-end-requires-clause-room c =
    let n : Node = record { vcn = c.self.inside.vcn; lsn = c.self.inside.lsn; entries = c.self.inside.entries } in
    omega (arith, entries_short n (subst FitsNode (sym c.self.view_is) c.requires.fits), ap entries_length c.as_slice-entries.ensures)

pub overflow_sub-out : goal.overflow_sub-out
overflow_sub-out c =
    let n : Node = record { vcn = c.self.inside.vcn; lsn = c.self.inside.lsn; entries = c.self.inside.entries } in
    omega (arith, entries_short n (subst FitsNode (sym c.self.view_is) c.requires.fits), ap entries_length c.as_slice-entries.ensures, c.put_entries-end.ensures.end)

pub put_zeros-requires : goal.put_zeros-requires
put_zeros-requires c =
    let n : Node = record { vcn = c.self.inside.vcn; lsn = c.self.inside.lsn; entries = c.self.inside.entries } in
    omega (arith, entries_short n (subst FitsNode (sym c.self.view_is) c.requires.fits), ap entries_length c.as_slice-entries.ensures, c.put_entries-end.ensures.end)

pub returns : goal.returns
returns c =
    let n : Node = record { vcn = c.self.inside.vcn; lsn = c.self.inside.lsn; entries = c.self.inside.entries } in
    let fits = subst FitsNode (sym c.self.view_is) c.requires.fits in
    let e = c.as_slice-entries.ensures in
    let head = c.put_block_head.ensures
    ∙ ap (λ (used : ℕ). written 0 (node_head n.lsn n.vcn used c.children_of.result) c.args.out.now) (c.node_used-used.ensures ∙ ap node_used e)
    ∙ ap (λ (flag : ℕ). written 0 (node_head n.lsn n.vcn (node_used n.entries) flag) c.args.out.now) (c.children_of.ensures.value ∙ ap children_of e) in
    let entries = c.put_entries-end.ensures.written ∙ ap (λ (xs : List Entry). written 0x40 (flat_map entry_spelling xs) c.put_block_head.new.out) e in
    node_put n c.put_entries-end.result (length c.put_entries-end.new.out - c.put_entries-end.result) c.args.out.now c.put_block_head.new.out c.put_entries-end.new.out c.put_zeros.new.out fits c.requires.whole head entries c.put_zeros.ensures (omega (arith, c.put_entries-end.ensures.end, ap entries_length e)) (omega (arith, c.requires.whole, c.put_entries-end.auto.out, c.put_block_head.auto.out))
    ∙ ap node_spelling c.self.view_is
