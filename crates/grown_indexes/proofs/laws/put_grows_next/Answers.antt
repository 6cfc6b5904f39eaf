use Rattle.grown_indexes.proofs.Put.{put_grows_next}
use Rattle.grown_indexes.proofs.laws.put_grows_next.Goals as goal

pub returns : goal.returns
returns c = put_grows_next
