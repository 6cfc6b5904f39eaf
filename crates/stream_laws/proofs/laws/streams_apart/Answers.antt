use Rattle.stream_laws.proofs.Sharing.{stream_of_volume, stream_once, streams_apart, stream_blocks_apart}
use Rattle.stream_laws.proofs.laws.streams_apart.Goals as goal

pub returns : goal.returns
returns c = record { some_of_all = stream_of_volume; once = stream_once; clusters = streams_apart; blocks = stream_blocks_apart }
