use Rattle.std.proofs.Common.{refl}
use Rattle.record_writer.specs.disk_model.Bytes.{zeros}
use Rattle.record_writer.specs.disk_model.Numbers.{spell}
use Rattle.plan_model.specs.record_model.Attributes.{front_spelling, resident_spelling, mapped_spelling, sizes_spelling, unit_bytes, filled}
use Rattle.plan_model.specs.record_model.Pairs.{signed_width, least_width, signed_bytes, pair_of, pairs_from, pairs_of}
use Rattle.space_model.specs.Choosing.{clear_front, longest_clear, lowest_fit, with_run, at_once, chosen_anywhere, behind, chosen, with_runs}
use Rattle.plan_model.specs.state_model.Streams.{is_attribute_of, attributes_of, stream_of, attribute_runs}
use Rattle.stream_runs.specs.Runs.{merged, grown, front}
use Rattle.step_model.specs.Placing.{runs_after}
use Rattle.step_model.specs.Used.{attrs_with, used_after, own_attr}
use Rattle.step_model.specs.Streams.{in_clusters, comes, data_comes}
use Rattle.step_model.proofs.laws.worked_records.Goals as goal

pub returns : goal.returns
unfolding zeros spell front_spelling resident_spelling mapped_spelling sizes_spelling unit_bytes filled signed_width least_width signed_bytes pair_of pairs_from pairs_of clear_front longest_clear lowest_fit with_run at_once chosen_anywhere behind chosen with_runs is_attribute_of attributes_of stream_of attribute_runs merged grown front runs_after attrs_with used_after own_attr in_clusters comes data_comes
returns c = record {
  room = refl;
  no_room = refl;
  filled = refl;
  left = refl;
  full = refl;
  empty = refl;
  stays = refl;
  over = refl;
  within = refl;
}
