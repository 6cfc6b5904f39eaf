use Rattle.std.proofs.Common.{refl}
use Rattle.tree_model.specs.Effects.{put_at, zeros_up_to}
use Rattle.tree_model.proofs.laws.worked_bytes.Goals as goal

pub returns : goal.returns
unfolding put_at zeros_up_to
returns c = record {
  inside = refl;
  behind_gap = refl;
  past_the_end = refl;
  longer = refl;
}
