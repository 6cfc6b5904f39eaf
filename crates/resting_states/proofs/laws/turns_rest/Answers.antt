use Rattle.resting_states.proofs.Turning.{rests_turned}
use Rattle.resting_states.proofs.laws.turns_rest.Goals as goal

pub returns : goal.returns
returns g c =
    rests_turned g.D.Device.gives g.D.Device.sector_count g.D.Device.moment_of g.D.Device.changes_of c.needed_is_all.ensures c.steps_spare.ensures c.steps_keep_states.ensures g.met.D.Device.whole g.met.D.Device.seen g.met.D.Device.few
