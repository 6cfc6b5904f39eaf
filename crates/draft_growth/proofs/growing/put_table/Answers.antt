use Rattle.std.proofs.lemmas.Result.{err_from_is_err_and}
use Rattle.draft_numbers.specs.draft_records.Records.{fits_room}
use Rattle.draft_growth.proofs.Fulls.{fitted, told}
use Rattle.draft_growth.proofs.growing.put_table.Goals as goal

pub returns-in_err-put_file-clause-full : goal.returns-in_err-put_file-clause-full
returns-in_err-put_file-clause-full g c =
    let p = err_from_is_err_and c.from_residual.result c.from_residual.ensures.1 in
    rw (p.1, p.2) (told c.in_err-put_file.field-0.0 (fits_room c.args.bitmap.now.file) c.in_err-put_file.ensures.room)

pub returns-clause-full : goal.returns-clause-full
returns-clause-full g c = fitted (fits_room c.args.bitmap.now.file) _ c.in_ok-put_file.ensures.room
