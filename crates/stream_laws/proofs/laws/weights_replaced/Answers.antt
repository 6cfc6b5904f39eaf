use Rattle.stream_laws.specs.Weights.{uses_as, live_in, times_named}
use Rattle.stream_laws.proofs.Weighing.{weights_balance}
use Rattle.stream_laws.proofs.laws.weights_replaced.Goals as goal

pub returns : goal.returns
returns c = record { kinds = λ kind x. weights_balance (uses_as kind x); live = λ per b. weights_balance (live_in per b); names = λ l. weights_balance (times_named l) }
