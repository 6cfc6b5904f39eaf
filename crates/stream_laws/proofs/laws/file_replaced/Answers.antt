use Rattle.stream_laws.proofs.Replacing.{clusters_replaced, names_replaced}
use Rattle.stream_laws.proofs.laws.file_replaced.Goals as goal

pub returns : goal.returns
returns c = record { clusters = clusters_replaced; names = names_replaced }
