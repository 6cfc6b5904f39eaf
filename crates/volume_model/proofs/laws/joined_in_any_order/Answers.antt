use Rattle.volume_model.proofs.Ordering.{any_order, one_stream}
use Rattle.volume_model.proofs.laws.joined_in_any_order.Goals as goal

pub returns : goal.returns
returns c = record { answer = any_order; stream = one_stream }
