use Rattle.stream_laws.proofs.Growing.{length-bytes_or, stream_grown, value_grown, stream_cut}
use Rattle.stream_laws.proofs.laws.streams_grow.Goals as goal

pub returns : goal.returns
returns c = record { size = length-bytes_or; stream = stream_grown; value = value_grown; cut = stream_cut }
