use Rattle.draft_records.proofs.Spelled.{spelled_fits}
use Rattle.draft_records.proofs.laws.spelled_fits_by_room.Goals as goal

pub returns : goal.returns
returns c = spelled_fits
