use Rattle.stream_laws.proofs.Leaving.{free_apart, free_in_runs}
use Rattle.stream_laws.proofs.laws.free_blocks_apart.Goals as goal

pub returns : goal.returns
returns c = record { apart = free_apart; of_runs = free_in_runs }
