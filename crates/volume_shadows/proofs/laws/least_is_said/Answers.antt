use Rattle.volume_shadows.proofs.Listing.{none_said_live, least_is_of, least_below}
use Rattle.volume_shadows.proofs.laws.least_is_said.Goals as goal

pub returns : goal.returns
returns c = record { none = none_said_live; some = least_is_of; least = least_below }
