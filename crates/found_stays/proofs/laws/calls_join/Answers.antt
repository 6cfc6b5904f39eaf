use Rattle.found_stays.proofs.Bearing.{none_stays, unknown_stays, both_stay, since_bears}
use Rattle.found_stays.proofs.laws.calls_join.Goals as goal

pub returns : goal.returns
returns c = record { none = none_stays; unknown = unknown_stays; both = both_stay; since = since_bears }
