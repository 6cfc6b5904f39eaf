use Rattle.stream_laws.proofs.Leaving.{bytes_left, index_left, record_left}
use Rattle.stream_laws.proofs.laws.other_streams_stay.Goals as goal

pub returns : goal.returns
returns c = record { bytes = bytes_left; index = index_left; record_of = record_left }
