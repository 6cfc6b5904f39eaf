use Rattle.std.proofs.Common.{refl}
use Rattle.record_model.specs.Pairs.{runs_of, runs_from, run_at, length_at, lcn_at, signed, pairs_of, pairs_from, pair_of, signed_bytes, signed_width, least_width}
use Rattle.record_model.proofs.pairs_laws.pairs_vectors.Goals as goal

pub returns : goal.returns
unfolding runs_of runs_from run_at length_at lcn_at signed pairs_of pairs_from pair_of signed_bytes signed_width least_width
returns c = record {
  four = refl;
  two = refl;
  cut_at_bytes = refl;
  cut_at_header = refl;
  header = refl;
  range = refl;
  header_of_nine = refl;
  header_of_nine_more = refl;
  eight_and_eight = refl;
  header_before_cut = refl;
  delta_header_before_cut = refl;
  no_length_before_cut = refl;
  header_before_range = refl;
  cut_before_length = refl;
  cut_before_lcn = refl;
  earlier_pair_first = refl;
  length_zero = refl;
  length_negative = refl;
  lcn_negative = refl;
  lcn_zero = refl;
  lcn_last = refl;
  lcn_behind = refl;
  sum_full = refl;
  sum_above = refl;
  written = refl;
}
