use Rattle.map_change.proofs.Prepared.{found_prepared}
use Rattle.map_change.proofs.preparing.prepare_over.Goals as goal

pub returns-in-Some-clause-answer : goal.returns-in-Some-clause-answer
returns-in-Some-clause-answer g c = found_prepared _ c.args.live.now c.args.changes.now c.in-Some.parts (rw c.in-Some.is at c.in_ok-found.ensures.value)
