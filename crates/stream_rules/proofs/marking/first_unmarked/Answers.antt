use Rattle.stream_rules.proofs.Judging.{unmarked_called}
use Rattle.stream_rules.proofs.marking.first_unmarked.Goals as goal

pub returns : goal.returns
returns c = unmarked_called c.args.bits.now c.bits.result c.args.runs.now c.in_ok-places.places.items c.deref.result.now c.least_unmarked.result c.bits.ensures c.in_ok-places.ensures.below c.in_ok-places.ensures.same c.deref.ensures.value c.least_unmarked.ensures
