use Rattle.std.proofs.Common.{sym, subst}
use Rattle.record_model.specs.Records.{FitsRecord}
use Rattle.volume_format.proofs.FittingRecords.{fits_record}
use Rattle.volume_format.proofs.records.record_bytes.Goals as goal

pub write_record-requires-clause-fits : goal.write_record-requires-clause-fits
write_record-requires-clause-fits c = subst FitsRecord (sym c.in_ok-file.ensures) (fits_record c.args.v c.requires.layout c.args.time c.args.number c.ranges.time.fits c.requires.number)
