use Rattle.std.proofs.Common.{◌∙◌}
use Rattle.volume_map.proofs.Heads.{unmarked}
use Rattle.volume_map.proofs.spare.first_unmarked.Goals as goal

pub returns : goal.returns
returns c = record { heads = c.first_unkept.ensures; value = λ content v hs bs. c.first_unkept.ensures ∙ unmarked _ _ content v hs bs }
