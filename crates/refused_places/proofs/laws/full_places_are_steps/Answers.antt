use Rattle.refused_places.proofs.Full.{full_places}
use Rattle.refused_places.proofs.laws.full_places_are_steps.Goals as goal

pub returns : goal.returns
returns c = full_places c.places_are_there.ensures c.new_file_reads.ensures c.not_made_is_step.ensures c.rises_where_needed.ensures
