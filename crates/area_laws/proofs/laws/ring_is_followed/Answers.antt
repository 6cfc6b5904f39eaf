use Rattle.area_laws.proofs.Joined.{starts, appends, seals, syncs_all, stays}
use Rattle.area_laws.proofs.Reading.{is_first, number_is, front_named, is_read}
use Rattle.area_laws.proofs.laws.ring_is_followed.Goals as goal

pub returns : goal.returns
returns c = record {
  start = starts;
  append = appends;
  seal = seals;
  synced = syncs_all;
  elsewhere = stays;
  numbers = λ s a r q pages fields disk h n. (is_first s a r q pages fields disk h n, number_is s a r q pages fields disk h n);
  front = front_named;
  crash = is_read;
}
