use Rattle.stream_rules.proofs.Steps.{torn_placed}
use Rattle.stream_rules.proofs.torn.has_torn.Goals as goal

pub returns-in-Placed-clause-value : goal.returns-in-Placed-clause-value
returns-in-Placed-clause-value g c = torn_placed _ c.args.per c.args.kind c.args.stream.now c.in-Placed.extents c.begun-count.result _ c.in-Placed.is c.begun-count.ensures.value (rw c.as_slice.ensures.value at c.has_torn_below.ensures.value)
