use Rattle.grown_indexes.proofs.Put.{put_grows_first}
use Rattle.grown_indexes.proofs.laws.put_grows_first.Goals as goal

pub returns : goal.returns
returns c = put_grows_first
