use Rattle.stream_laws.proofs.Framing.{same_extents, same_stream, same_file}
use Rattle.stream_laws.proofs.laws.frame_of_streams.Goals as goal

pub returns : goal.returns
returns c = record { extents = same_extents; stream = same_stream; of_file = same_file }
