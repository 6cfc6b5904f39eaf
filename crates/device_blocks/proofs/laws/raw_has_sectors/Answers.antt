use Rattle.device_blocks.proofs.Pieces.{raw_sectors, raw_sector}
use Rattle.device_blocks.proofs.laws.raw_has_sectors.Goals as goal

pub returns : goal.returns
returns c = record { counted = raw_sectors; each = λ at first n s sized within. raw_sector at first n s sized within }
