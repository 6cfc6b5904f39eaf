use Rattle.txn_core.specs.txn_state.States.{facts_of}
use Rattle.txn_core.specs.Steps.{AfterTurn}
use Rattle.turn_laws.proofs.Falling.{falls}
use Rattle.turn_laws.proofs.Sparing.{turn_spares, stays_unknown}
use Rattle.turn_laws.proofs.laws.steps_spare.Goals as goal

pub returns : goal.returns
returns g c = record {
  turn = λ step result old new w disk k given has may turned device takes.
      turn_spares g.D.Device.gives g.D.Device.sector_count g.D.Device.moment_of g.D.Device.changes_of step result old new w disk k (g.met.D.Device.seen old.device) (g.met.D.Device.seen new.device) given has may turned device takes;
  unknown = λ step result old new takes none. stays_unknown g.D.Device.gives g.D.Device.sector_count g.D.Device.moment_of g.D.Device.changes_of (AfterTurn step result (facts_of old.state)) old new (g.met.D.Device.seen old.device) (g.met.D.Device.seen new.device) takes none;
  rest = λ step result f h turned. (let down = falls step result f h turned in (down.place, down.is_open, down.commits));
}
