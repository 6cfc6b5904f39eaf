use Rattle.stream_laws.proofs.Placing.{overlapping_places, one_place, lists_apart}
use Rattle.stream_laws.proofs.laws.no_block_twice.Goals as goal

pub returns : goal.returns
returns c = record { places = overlapping_places; one_kind = one_place; two_lists = lists_apart }
