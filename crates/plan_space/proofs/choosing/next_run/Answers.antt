use Rattle.plan_space.proofs.Stepping.{next_first, next_longest}
use Rattle.plan_space.proofs.choosing.next_run.Goals as goal

pub returns-in-Some : goal.returns-in-Some
returns-in-Some g c = next_first _ _ _ c.requires.some c.in-Some.ensures

pub returns-in-None : goal.returns-in-None
returns-in-None g c = next_longest _ _ c.longest.result c.requires.some c.requires.room c.in-None.ensures c.longest.ensures
