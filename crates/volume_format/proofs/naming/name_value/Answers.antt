use Rattle.std.proofs.Common.{sym, subst}
use Rattle.record_model.specs.StdValues.{FitsFileName}
use Rattle.volume_format.proofs.FittingRecords.{name_fits}
use Rattle.volume_format.proofs.naming.name_value.Goals as goal

pub write-requires-clause-fits : goal.write-requires-clause-fits
write-requires-clause-fits c = subst FitsFileName (sym c.in_ok-fields.ensures) (name_fits c.args.v c.requires.layout c.args.time c.args.number c.ranges.time.fits c.requires.system)
