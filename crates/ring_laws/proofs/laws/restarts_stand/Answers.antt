use Rattle.ring_laws.proofs.RestartCalls.{finds, restarts_sync, restarts_kept, chooses, restart_picks}
use Rattle.ring_laws.proofs.RestartWrites.{restart_is_sent, restart_not_sent}
use Rattle.ring_laws.proofs.laws.restarts_stand.Goals as goal

pub returns : goal.returns
returns c = record {
  start = finds;
  begun = restart_picks;
  written = λ place q fields disk next word h is. restart_is_sent place q fields disk word h next is;
  failed = λ place q fields disk now next word h is between. restart_not_sent place q fields disk word h now next is between;
  synced = restarts_sync;
  elsewhere = λ place q check fields disk now h alike. restarts_kept place q check fields disk h now alike;
  chosen = chooses;
}
