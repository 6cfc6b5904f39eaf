use Rattle.std.proofs.Common.{ℕ, ◌∷◌, [], List, ap, ◌∙◌, refl}
use Rattle.disk_model.specs.Numbers.{spell}
use Rattle.disk_model.specs.Bytes.{written, zeros}
use Rattle.disk_model.proofs.Fields.{length-spell}
use Rattle.record_model.proofs.UnitBytes.{length-zeros}
use Rattle.record_model.specs.Nodes.{node_head}
use Rattle.index_node.proofs.Placing.{put_first, put_next, one_byte}
use Rattle.index_node.proofs.writing.put_block_head.Goals as goal

pub returns : goal.returns
unfolding node_head
returns c =
    let flag = c.put_bytes-2.ensures ∙ ap (λ (x : List ℕ). written 0x24 x c.put_u32-3.new.bytes) (one_byte c.args.flag c.ranges.flag.fits) in
    let a = put_first (0x49 ∷ 0x4E ∷ 0x44 ∷ 0x58 ∷ []) 4 refl c.put_bytes.ensures in
    let b = put_next (spell 2 0x28) 2 0x04 a (length-spell 2 0x28) refl c.put_u16.ensures in
    let d = put_next (spell 2 9) 2 0x06 b (length-spell 2 9) refl c.put_u16-2.ensures in
    let e = put_next (spell 8 c.args.lsn) 8 0x08 d (length-spell 8 c.args.lsn) refl c.put_u64.ensures in
    let f = put_next (spell 8 c.args.vcn) 8 0x10 e (length-spell 8 c.args.vcn) refl c.put_u64-2.ensures in
    let g = put_next (spell 4 0x28) 4 0x18 f (length-spell 4 0x28) refl c.put_u32.ensures in
    let h = put_next (spell 4 c.args.used) 4 0x1C g (length-spell 4 c.args.used) refl c.put_u32-2.ensures in
    let i = put_next (spell 4 4072) 4 0x20 h (length-spell 4 4072) refl c.put_u32-3.ensures in
    let j = put_next (spell 1 c.args.flag) 1 0x24 i (length-spell 1 c.args.flag) refl flag in
    let k = put_next (zeros 3) 3 0x25 j (length-zeros 3) refl c.put_zeros.ensures in
    (put_next (zeros 0x18) 0x18 0x28 k (length-zeros 0x18) refl c.put_zeros-2.ensures).put
