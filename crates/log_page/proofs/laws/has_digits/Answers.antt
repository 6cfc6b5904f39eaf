use Rattle.log_page.proofs.PlacesFit.{has_digits}
use Rattle.log_page.proofs.laws.has_digits.Goals as goal

pub returns : goal.returns
returns c = has_digits
