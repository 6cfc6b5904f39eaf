use Rattle.found_stays.proofs.Bearing.{image_bears, seen_bears, given_bears}
use Rattle.found_stays.proofs.laws.images_bear.Goals as goal

pub returns : goal.returns
returns c = record { left = image_bears; reads = seen_bears; given = given_bears }
