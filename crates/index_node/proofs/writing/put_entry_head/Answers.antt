use Rattle.std.proofs.Common.{ℕ, ◌+◌, length, List, ap, ◌∙◌, refl}
use Rattle.disk_model.specs.host_base.FileRefs.{packed}
use Rattle.disk_model.specs.Numbers.{spell}
use Rattle.disk_model.specs.Bytes.{written, zeros}
use Rattle.disk_model.proofs.Fields.{length-spell}
use Rattle.record_model.proofs.UnitBytes.{length-zeros}
use Rattle.record_model.specs.Nodes.{down_flag, last_flag}
use Rattle.index_node.specs.Spelling.{entry_head}
use Rattle.index_node.proofs.Placing.{put_first, put_next}
use Rattle.index_node.proofs.writing.put_entry_head.Goals as goal

pub returns : goal.returns
unfolding entry_head
returns c =
    let at = c.args.at in
    let e = c.args.entry.now in
    let number = c.put_u64.ensures ∙ ap (λ (v : ℕ). written at (spell 8 v) c.args.out.now) c.pack.ensures in
    let key = c.put_u16-2.ensures ∙ ap (λ (k : List ℕ). written (at + 0x0A) (spell 2 (length k)) c.put_u16.new.bytes) c.as_slice-key.ensures in
    let flag = ap (λ (v : ℕ). v + c.last_flag.result) (c.from.ensures ∙ c.down_flag.ensures.value) ∙ ap (λ (v : ℕ). down_flag e.down + v) (c.last_flag.ensures.value ∙ ap last_flag c.as_slice-key.ensures) in
    let flags = c.put_u16-3.ensures ∙ ap (λ (v : ℕ). written (at + 0x0C) (spell 2 v) c.put_u16-2.new.bytes) flag in
    let a = put_first (spell 8 (packed e.child)) 8 (length-spell 8 (packed e.child)) number in
    let b = put_next (spell 2 c.args.entry_length) 2 (at + 0x08) a (length-spell 2 c.args.entry_length) refl c.put_u16.ensures in
    let d = put_next (spell 2 (length e.key)) 2 (at + 0x0A) b (length-spell 2 (length e.key)) refl key in
    let f = put_next (spell 2 (down_flag e.down + last_flag e.key)) 2 (at + 0x0C) d (length-spell 2 (down_flag e.down + last_flag e.key)) refl flags in
    (put_next (zeros 2) 2 (at + 0x0E) f (length-zeros 2) refl c.put_zeros.ensures).put
