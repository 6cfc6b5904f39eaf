use Rattle.ring_laws.proofs.Numbering.{has_places, in_ring, first_number, next_page, says_lap, says_page, says_ring, says_start, lsns_rise}
use Rattle.ring_laws.proofs.laws.pages_are_numbered.Goals as goal

pub returns : goal.returns
returns c = record {
  places = has_places;
  inside = λ s n ring. in_ring s ring n;
  first = first_number;
  next = λ s n ring. next_page s ring n;
  says = λ s n ring small. (says_lap s ring small n, says_page s ring small n, says_ring s ring small n, says_start s ring small n);
  rises = λ s m n ring small lt. lsns_rise s ring small m n lt;
}
