use Rattle.std.proofs.Common.{◌≡◌, ◌≤◌, arith}
use Rattle.record_model.specs.Records.{used_of}
use Rattle.draft_records.specs.Records.{written_bytes}
use Rattle.used_laws.proofs.Lengths.{written_used}
use Rattle.place_makes.proofs.times.written.Goals as goal

pub returns-clause-room : goal.returns-clause-room
returns-clause-room c =
    let used : used_of c.in-Ok.new.attrs ≤ 1024 = c.in-Ok.ensures.fits.used in
    let same : written_bytes c.in-Ok.new ≡ used_of c.in-Ok.new.attrs = written_used c.in-Ok.new in
    record { fits = c.in-Ok.ensures.but_room; room = omega (arith, same, used) }
