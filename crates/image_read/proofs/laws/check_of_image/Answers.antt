use Rattle.image_read.proofs.States.{one, stands, answered}
use Rattle.image_read.proofs.laws.check_of_image.Goals as goal

pub returns : goal.returns
returns c = record { one = one; stands = stands; answered = answered }
