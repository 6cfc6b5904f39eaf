use Rattle.log_page.proofs.PlacesFit.{says_place}
use Rattle.log_page.proofs.laws.lsn_says_place.Goals as goal

pub returns : goal.returns
returns c = says_place
