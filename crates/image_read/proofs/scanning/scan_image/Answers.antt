use Rattle.image_read.specs.Scans.{scan_in, scan_of}
use Rattle.image_read.proofs.scanning.scan_image.Goals as goal

pub returns-clause-answer : goal.returns-clause-answer
unfolding scan_of scan_in
returns-clause-answer g c = c.with_volume.ensures.answer
