use Rattle.volume_shadows.proofs.Listing.{live_has, has_live}
use Rattle.volume_shadows.proofs.laws.live_by_list.Goals as goal

pub returns : goal.returns
returns c = record { live = live_has; only = has_live }
