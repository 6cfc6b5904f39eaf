use Rattle.image_open.specs.Writing.{opened_with}
use Rattle.image_open.proofs.writing.open_with.Goals as goal

pub returns-clause-answer : goal.returns-clause-answer
unfolding opened_with
returns-clause-answer g c = rw (c.geometry_of.ensures.value, c.clusters_of.ensures.value) at c.open_log.ensures.answer
