use Rattle.std.proofs.Common.{ℕ, arith}
use Rattle.record_model.specs.disk_model.Bytes.{AreBytes}
use Rattle.record_model.proofs.Records.{read_is_table}
use Rattle.resized_streams.proofs.record_writer.NormalRoom.{read_fits}
use Rattle.resized_streams.proofs.record_streams.Read.{read_but_room}
use Rattle.draft_records.proofs.records.read_record.Goals as goal

pub returns-in-Ok-clause-fits : goal.returns-in-Ok-clause-fits
returns-in-Ok-clause-fits c =
    let small : AreBytes c.args.body.now = λ (i : ℕ). omega (arith, c.type_inv.body i) in
    read_but_room c.args.body.now c.in-Ok.file c.requires small c.in-Ok.ensures.value

pub returns-in-Ok-clause-short : goal.returns-in-Ok-clause-short
returns-in-Ok-clause-short c =
    let small : AreBytes c.args.body.now = λ (i : ℕ). omega (arith, c.type_inv.body i) in
    let fit = read_fits c.args.body.now c.in-Ok.file c.requires small (read_is_table c.args.body.now c.in-Ok.file small c.in-Ok.ensures.value) in
    omega (arith, fit.bytes)
