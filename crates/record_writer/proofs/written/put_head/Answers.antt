use Rattle.std.proofs.Common.{ℕ, ap, ◌∙◌}
use Rattle.disk_model.specs.Numbers.{spell}
use Rattle.disk_model.specs.Bytes.{written}
use Rattle.record_writer.proofs.Whole.{head_put}
use Rattle.record_writer.proofs.written.put_head.Goals as goal

pub returns : goal.returns
returns c =
    head_put c.args.out.now _ _ _ _ _ _ _ _ _ _ _ _ _ _ _ c.args.head.now c.args.used c.put_bytes.ensures c.put_u16.ensures c.put_u16-2.ensures c.put_u64.ensures c.put_u16-3.ensures c.put_u16-4.ensures
    c.put_u16-5.ensures c.put_u16-6.ensures c.put_u32.ensures c.put_u32-2.ensures (c.put_u64-2.ensures ∙ ap (λ (n : ℕ). written 0x20 (spell 8 n) c.put_u32-2.new.bytes) c.pack.ensures) c.put_u16-7.ensures c.put_zeros.ensures c.put_u32-3.ensures c.put_zeros-2.ensures
