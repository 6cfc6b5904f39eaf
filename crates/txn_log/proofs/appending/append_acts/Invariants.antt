use Rattle.std.proofs.Common.{◌≡◌, length}
use Rattle.std.specs.Vec.Iter.{into_iter_items, into_iter_len}
use Rattle.txn_log.proofs.Steps.{GoesOn}
use Rattle.txn_log.proofs.appending.append_acts.Given as goal

abbrev pub invariant-loop-act : goal.invariant-loop-act
invariant-loop-act l = record {
  goes_on : GoesOn l.tx l.commits l.initial.area l.initial.last l.initial.ends.items (into_iter_items l.initial.act-iterator) l.area l.last l.ends.items (into_iter_items l.act-iterator);
  whole : into_iter_len l.act-iterator ≡ length (into_iter_items l.act-iterator);
}
