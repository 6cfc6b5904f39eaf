use Rattle.std.proofs.Common.{rules}
use Rattle.new_files.specs.Laws.{HasFields}
use Rattle.file_makes.proofs.Fitting.{record_fits, record_short}
use Rattle.file_makes.proofs.making.made_record.Goals as goal

pub returns-clause-fits : goal.returns-clause-fits
returns-clause-fits c =
    let has : HasFields c.args.lsn c.args.file c.args.parent c.args.name.now c.args.stamp = search rules in
    record_fits c.new_file_reads.ensures c.spelled_fits_by_room.ensures c.args.lsn c.args.file c.args.parent c.args.name.now c.args.stamp c.new_record.result has c.new_record.ensures.value

pub returns-clause-room : goal.returns-clause-room
returns-clause-room c =
    let has : HasFields c.args.lsn c.args.file c.args.parent c.args.name.now c.args.stamp = search rules in
    record_short c.new_file_reads.ensures c.args.lsn c.args.file c.args.parent c.args.name.now c.args.stamp c.new_record.result has c.new_record.ensures.value
