use Rattle.stream_laws.proofs.Taking.{taken_once, taken_apart, another_elsewhere, behind_elsewhere}
use Rattle.stream_laws.proofs.laws.grown_runs_apart.Goals as goal

pub returns : goal.returns
returns c = record { once = taken_once; clusters = taken_apart; in_another = another_elsewhere; behind = behind_elsewhere }
