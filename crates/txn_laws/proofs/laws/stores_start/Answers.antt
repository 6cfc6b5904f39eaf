use Rattle.txn_laws.proofs.Starts.{starts_window}
use Rattle.txn_laws.proofs.laws.stores_start.Goals as goal

pub returns : goal.returns
returns c = record {
  start = λ changes place log found lap r q fields disk own is stands idle said names fits opens unsent settled sized. starts_window place log found lap r q fields disk own stands idle said names fits opens unsent settled sized changes is;
}
