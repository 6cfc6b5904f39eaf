use Rattle.std.proofs.Common.{ℕ, Option, length, ap, arith}
use Rattle.disk_model.proofs.Fields.{length-spell}
use Rattle.record_model.specs.Attributes.{held_bytes}
use Rattle.record_writer.proofs.putting.put_held.Goals as goal

pub put_u64-requires : goal.put_u64-requires
put_u64-requires c =
    let e = ap (λ (h : Option ℕ). length (held_bytes h)) c.in-Some.is in
    omega (arith, e, length-spell 8 c.in-Some.held, c.requires)
