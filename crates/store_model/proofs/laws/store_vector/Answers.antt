use Rattle.std.proofs.Common.{refl}
use Rattle.log_model.specs.disk_model.Writes.{cover_all}
use Rattle.log_model.specs.Logs.{is_shadowed, recovered, is_covered_whole}
use Rattle.store_model.proofs.laws.store_vector.Goals as goal

pub returns : goal.returns
unfolding is_shadowed recovered is_covered_whole cover_all
returns c = record {
  present = refl;
  newest = refl;
  one_back = refl;
  two_back = refl;
  waiting = refl;
  given_up = refl;
  all_told = refl;
  four_told = refl;
  three_told = refl;
  one_told = refl;
  none_told = refl;
  record_behind = refl;
  plain_behind = refl;
  last_record = refl;
  last_plain = refl;
  behind = refl;
  loser_bytes = refl;
  loser_whole = refl;
  still_torn = refl;
  dirty = refl;
  not_dirty = refl;
  dead = refl;
  not_dead = refl;
  known = refl;
  off_grid = refl;
  index_off_grid = refl;
  of_the_log = refl;
  whole_tells = refl;
  later_tells = refl;
  later_agrees = refl;
}
