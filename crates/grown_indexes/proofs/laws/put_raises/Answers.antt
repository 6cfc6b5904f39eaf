use Rattle.grown_indexes.proofs.Raised.{put_raises}
use Rattle.grown_indexes.proofs.laws.put_raises.Goals as goal

pub returns : goal.returns
returns c = put_raises
