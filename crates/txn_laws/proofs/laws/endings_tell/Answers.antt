use Rattle.txn_laws.proofs.Telling.{at_return, waits, is_open_of, machine_of, window_ends, machine_ends}
use Rattle.txn_laws.proofs.Showing.{present_shown, laps_shown}
use Rattle.txn_laws.proofs.Laps.{next_lap_shown}
use Rattle.txn_laws.proofs.laws.endings_tell.Goals as goal

pub returns : goal.returns
returns c = record {
  window = window_ends;
  machine = machine_ends;
  tell = record { at_return = at_return; laps = laps_shown; next_lap = next_lap_shown; present = present_shown; waiting = waits; is_open = is_open_of; machine = machine_of };
}
