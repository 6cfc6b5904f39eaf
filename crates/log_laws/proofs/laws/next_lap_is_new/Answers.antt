use Rattle.log_laws.proofs.Greatest.{greatest_found, found_greatest, none_found, found_none}
use Rattle.log_laws.proofs.Fresh.{next_is, first_is, above, greater_from, none_whole, nothing_read}
use Rattle.log_laws.proofs.laws.next_lap_is_new.Goals as goal

pub returns : goal.returns
returns c = record {
  greatest = λ pages raw chosen lsn. (greatest_found pages raw chosen lsn, found_greatest pages raw chosen lsn);
  none = λ pages raw chosen. (none_found pages raw chosen, found_none pages raw chosen);
  above = above;
  next = next_is;
  first = first_is;
  greater = greater_from;
  fresh = none_whole;
  empty = nothing_read;
}
