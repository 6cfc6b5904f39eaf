use Rattle.found_stays.proofs.Turning.{none_kept, present_bears, given_present}
use Rattle.found_stays.proofs.laws.bodies_stay.Goals as goal

pub returns : goal.returns
returns c = record { none = none_kept; present = present_bears; given = given_present }
