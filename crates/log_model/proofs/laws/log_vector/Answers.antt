use Rattle.std.proofs.Common.{refl}
use Rattle.disk_model.specs.Writes.{cover_all}
use Rattle.log_model.specs.Logs.{is_shadowed, recovered, is_covered_whole, is_other, is_misplaced, is_partial}
use Rattle.log_model.proofs.laws.log_vector.Goals as goal

pub returns : goal.returns
unfolding is_shadowed recovered is_covered_whole is_other is_misplaced is_partial cover_all
returns c = record {
  undone = refl;
  redone = refl;
  not_ended = refl;
  given_up = refl;
  shadowed = refl;
  own = refl;
  rival = refl;
  inside = refl;
  outside = refl;
  plain_is_good = refl;
}
