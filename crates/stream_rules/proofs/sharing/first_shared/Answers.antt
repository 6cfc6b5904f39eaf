use Rattle.stream_rules.proofs.Judging.{shared_called}
use Rattle.stream_rules.proofs.sharing.first_shared.Goals as goal

pub returns : goal.returns
returns c = shared_called c.args.clusters c.args.runs.now c.in_ok-places.places.items c.deref.result.now c.least_shared.result c.in_ok-places.ensures.below c.in_ok-places.ensures.same c.deref.ensures.value c.least_shared.ensures
