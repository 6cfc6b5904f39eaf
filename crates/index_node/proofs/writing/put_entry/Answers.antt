use Rattle.std.proofs.Common.{◌+◌, List, ℕ, length, ap, ◌∙◌}
use Rattle.disk_model.specs.Bytes.{written, up8}
use Rattle.record_model.specs.Attributes.{filled}
use Rattle.record_model.specs.Nodes.{down_bytes}
use Rattle.index_node.specs.Spelling.{entry_head}
use Rattle.index_node.proofs.Placing.{entry_put}
use Rattle.index_node.proofs.writing.put_entry.Goals as goal

pub returns : goal.returns
returns c =
    let at = c.args.at in
    let e = c.args.entry.now in
    let out = c.args.out.now in
    entry_put at e out c.put_entry_head.new.out c.put_key.new.out c.put_down.new.out
    (c.put_entry_head.ensures ∙ ap (λ (n : ℕ). written at (entry_head e n) out) c.entry_length.ensures)
    (c.put_key.ensures ∙ ap (λ (k : List ℕ). written (at + 0x10) (filled 0x10 k) c.put_entry_head.new.out) c.as_slice-key.ensures)
    (c.put_down.ensures ∙ ap (λ (k : List ℕ). written (at + up8 (0x10 + length k)) (down_bytes e.down) c.put_key.new.out) c.as_slice-key.ensures)
