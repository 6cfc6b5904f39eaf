use Rattle.stream_laws.proofs.Taking.{block_longer, block_before}
use Rattle.stream_laws.proofs.laws.runs_go_on.Goals as goal

pub returns : goal.returns
returns c = record { longer = block_longer; behind = block_before }
