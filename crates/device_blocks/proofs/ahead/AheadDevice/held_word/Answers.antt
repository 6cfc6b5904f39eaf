use Rattle.device_blocks.proofs.Told.{plain_told}
use Rattle.device_blocks.proofs.ahead.AheadDevice.held_word.Goals as goal

pub returns-in-Plain-clause-word : goal.returns-in-Plain-clause-word
returns-in-Plain-clause-word g c = plain_told (g.D.Device.gives c.args.self.now.device) c.args.block c.in-Plain.is
