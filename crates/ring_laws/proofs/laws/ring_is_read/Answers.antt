use Rattle.ring_laws.proofs.RingFacts.{laps_climb}
use Rattle.ring_laws.proofs.RingReads.{reads_front, reads_numbers, laps_said, lap_is_next}
use Rattle.ring_laws.proofs.laws.ring_is_read.Goals as goal

pub returns : goal.returns
returns c = record {
  front = reads_front;
  numbers = reads_numbers;
  laps = laps_said;
  next_lap = λ s r check pages disk h image left chosen n le low. lap_is_next s r check pages disk h image left chosen n (laps_climb s h.lies r.sent n le) low;
}
