use Rattle.record_streams.proofs.Streams.{placed_one, placed_stream, placed_others}
use Rattle.record_streams.proofs.laws.streams_are_placed.Goals as goal

pub returns : goal.returns
returns c = record {
  one = placed_one;
  stream = placed_stream;
  others = placed_others;
}
