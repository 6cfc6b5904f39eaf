use Rattle.std.proofs.Common.{◌∙◌}
use Rattle.disk_model.proofs.Sectors.{length-body_of}
use Rattle.device_view.proofs.ahead.ReadAhead.read_through.Goals as goal

pub returns-clause-size : goal.returns-clause-size
returns-clause-size g c = rw c.set_body.ensures (length-body_of c.args.block.kind c.fill.new.raw ∙ c.fill.auto.raw ∙ c.requires.size)
