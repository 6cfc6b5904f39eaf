use Rattle.std.proofs.Common.{ap, ◌∙◌}
use Rattle.disk_model.specs.Fixups.{is_in_shape}
use Rattle.record_writer.proofs.Again.{read_again}
use Rattle.volume_format.proofs.records.write_record.Goals as goal

pub protect-requires-clause-shape : goal.protect-requires-clause-shape
protect-requires-clause-shape c = ap is_in_shape c.write.ensures.spelled ∙ (read_again c.args.file.now c.requires.fits).shape
