use Rattle.store_model.proofs.Rings.{reads_prefix, ring-start, ring-step, images_are_left}
use Rattle.store_model.proofs.laws.ring_is_prefix.Goals as goal

pub returns : goal.returns
returns c = record { reads = reads_prefix; start = ring-start; step = ring-step; left = images_are_left }
