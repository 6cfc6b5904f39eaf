use Rattle.image_read.specs.Checks.{check_in, check_of}
use Rattle.image_read.proofs.checking.check_image.Goals as goal

pub returns-clause-answer : goal.returns-clause-answer
unfolding check_of check_in
returns-clause-answer g c = c.with_volume.ensures.answer
