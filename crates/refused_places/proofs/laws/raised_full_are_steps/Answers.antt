use Rattle.refused_places.proofs.Raising.{raised_full_places}
use Rattle.refused_places.proofs.laws.raised_full_are_steps.Goals as goal

pub returns : goal.returns
returns c = raised_full_places c.places_are_there.ensures c.new_file_reads.ensures c.found_is_there.ensures c.makings_are_steps.ensures
