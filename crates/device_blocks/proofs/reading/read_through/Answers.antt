use Rattle.std.proofs.Common.{◌∙◌}
use Rattle.disk_model.proofs.Sectors.{length-body_of}
use Rattle.device_blocks.proofs.reading.read_through.Goals as goal

pub returns-clause-size : goal.returns-clause-size
returns-clause-size g c = rw c.undo.ensures.body (length-body_of c.args.block.kind c.read.new.out ∙ c.read.auto.out ∙ c.requires.room)
