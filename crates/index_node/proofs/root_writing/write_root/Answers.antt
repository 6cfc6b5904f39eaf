use Rattle.std.proofs.Common.{◌≡◌, ◌+◌, ◌-◌, length, ap, ◌∙◌, arith}
use Rattle.disk_model.specs.Bytes.{part}
use Rattle.record_model.specs.Nodes.{Node, node_used, node_spelling, children_of, entries_length}
use Rattle.index_node.specs.Roots.{new_node}
use Rattle.index_node.proofs.RootSpelled.{node_used_is, entries_part, root_is}
use Rattle.record_model.proofs.NodeSpelling.{length-node_spelling}
use Rattle.index_node.proofs.root_writing.write_root.Goals as goal

pub overflow_sub-bytes : goal.overflow_sub-bytes
overflow_sub-bytes c = omega (arith, c.used.ensures, ap (λ (n : Node). node_used n.entries) c.new-node.ensures, node_used_is c.args.entries)

pub root_of-requires-clause-inside : goal.root_of-requires-clause-inside
root_of-requires-clause-inside c =
    let body : length c.deref.result.now ≡ length (node_spelling (new_node 0 c.args.entries)) = ap length (c.deref.ensures.value ∙ c.in_ok-body.ensures ∙ ap node_spelling c.new-node.ensures) in
    omega (arith, body, length-node_spelling (new_node 0 c.args.entries) c.requires, c.used.ensures, ap (λ (n : Node). node_used n.entries) c.new-node.ensures, c.requires.used)

pub returns : goal.returns
returns c = record {
  value =
      let n : Node = new_node 0 c.args.entries in
      let bytes : c.used.result - 0x28 ≡ entries_length c.args.entries = omega (arith, c.used.ensures, ap (λ (n : Node). node_used n.entries) c.new-node.ensures, node_used_is c.args.entries) in
      let body : c.deref.result.now ≡ node_spelling n = c.deref.ensures.value ∙ c.in_ok-body.ensures ∙ ap node_spelling c.new-node.ensures in
      let flag : c.children_of-flag.result ≡ children_of c.args.entries = c.children_of-flag.ensures.value ∙ ap children_of (c.as_slice.ensures ∙ c.entries.ensures.value ∙ ap (λ (n : Node). n.entries) c.new-node.ensures) in
      c.from.ensures ∙ c.in_ok-value.ensures
      ∙ root_is c.args.clusters (0x10 + (c.used.result - 0x28)) c.children_of-flag.result (part 0x40 (c.used.result - 0x28) c.deref.result.now) c.args.entries (omega (arith, bytes)) flag
      (ap (part 0x40 (c.used.result - 0x28)) body ∙ entries_part n c.requires (c.used.result - 0x28) bytes);
}
