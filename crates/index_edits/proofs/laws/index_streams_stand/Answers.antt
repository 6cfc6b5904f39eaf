use Rattle.index_edits.proofs.Streams.{streams_stand}
use Rattle.index_edits.proofs.laws.index_streams_stand.Goals as goal

pub returns : goal.returns
returns c = streams_stand
