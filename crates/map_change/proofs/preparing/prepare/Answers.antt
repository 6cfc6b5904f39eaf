use Rattle.map_change.proofs.Prepared.{over_ready}
use Rattle.map_change.proofs.preparing.prepare.Goals as goal

pub returns-clause-answer : goal.returns-clause-answer
returns-clause-answer g c = over_ready _ _ c.args.live.now c.args.changes.now _ _ (g.met.V.View.sized c.args.view.now) c.overlay-after.ensures.content c.in_ok-change.ensures.answer c.in_ok-with_room.ensures.value
