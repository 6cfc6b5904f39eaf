use Rattle.volume_map.proofs.Heads.{spares}
use Rattle.volume_map.proofs.spare.spare_numbers.Goals as goal

pub returns : goal.returns
returns c = record { heads = c.spare_from.ensures; value = λ content v hs bs. rw (spares _ _ content v hs bs) at c.spare_from.ensures }
