use Rattle.txn_core.specs.txn_state.States.{facts_of}
use Rattle.found_stays.proofs.Writing.{sync_stays}
use Rattle.found_stays.proofs.Turning.{restart_stays, turn_stays, store_keeps, window_machine, window_keeps}
use Rattle.found_stays.proofs.laws.steps_stay.Goals as goal

pub returns : goal.returns
returns g c =
    let gives = g.D.Device.gives in
    let changes = g.D.Device.changes_of in
    let moment = g.D.Device.moment_of in record {
      turn = λ count first step result old new k machine off may turned.
          turn_stays gives changes moment count first (facts_of old.state) (facts_of new.state) old.device new.device machine off step result old.words new.words (store_keeps (facts_of old.state) k) may turned;
      windowed = λ count first step result old new w has off may turned.
          turn_stays gives changes moment count first (facts_of old.state) (facts_of new.state) old.device new.device (window_machine (changes old.device) (facts_of old.state) w has) off step result old.words new.words (window_keeps (changes old.device) (facts_of old.state) w has) may turned;
      restart = λ ends count first clean result f h old new machine off sent. restart_stays gives changes moment count first f h old new machine off clean result sent;
      sync = λ count found first result old new syncs. sync_stays count (moment old) result found first (changes old) (changes new) syncs;
    }
